pub mod Nicknames
pub mod PlainRows
pub mod Marks
pub mod Before
pub mod FieldLaws
pub mod Words
pub mod NumberTexts
pub mod NumberForms
