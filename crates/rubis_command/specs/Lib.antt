pub mod CommandLine
pub mod Setups
pub mod Statuses
