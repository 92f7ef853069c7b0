pub mod Message
pub mod Equal
pub mod Grammar
pub mod Counts
pub mod Readings
pub mod Inputs
pub mod WorldReadings
