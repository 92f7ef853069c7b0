pub mod Fields
pub mod Forms
pub mod Records
pub mod FirstWords
pub mod Widening
pub mod Versions
