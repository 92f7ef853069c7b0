pub mod State
pub mod Counts
pub mod Folding
pub mod Follow
pub mod Tries
