pub mod Common
pub mod Standing
pub mod Deciding
pub mod Listing
pub mod Comings
pub mod Trying
mod GivenOut
mod TryExamples
