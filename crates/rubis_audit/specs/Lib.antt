pub mod Checking
pub mod Claimed
pub mod Walks
pub mod Forms
pub mod Running
pub mod Reasons
