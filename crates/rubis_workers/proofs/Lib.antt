pub mod Common
pub mod Applied
mod Folded
pub mod Counts
pub mod Shard
pub mod Pieces
