pub mod Examples
pub mod Granted
