pub mod Common
pub mod Collecting
pub mod Merging
pub mod CheckFacts
pub mod Comparing
pub mod Judging
pub mod Placing
pub mod Walking
