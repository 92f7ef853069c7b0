pub mod Text
pub mod Rows
pub mod Reading
pub mod Accounts
pub mod Progress
pub mod Seam
