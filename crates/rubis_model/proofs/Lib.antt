pub mod Settling
pub mod Shares
pub mod InPlace
pub mod OneOutcome
