pub mod Worlds
pub mod Running
pub mod Script
pub mod Headline
