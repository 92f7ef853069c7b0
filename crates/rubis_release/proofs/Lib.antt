pub mod Common
pub mod Keeping
pub mod Intakes
pub mod Makes
pub mod Slots
