pub mod Examples
pub mod Reasons
pub mod Words
