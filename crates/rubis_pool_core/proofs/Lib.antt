pub mod Accounts
pub mod Batches
pub mod Posted
pub mod Hands
pub mod Threads
