pub mod Machine
pub mod Batches
pub mod Teams
