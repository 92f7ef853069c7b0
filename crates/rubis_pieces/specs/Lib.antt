pub mod Pieces
pub mod Batches
pub mod Misfits
pub mod Following
