pub mod Release
pub mod Waiting
