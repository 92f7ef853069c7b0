pub mod States
pub mod Chains
pub mod Rows
pub mod Holdings
pub mod Laws
pub mod Listed
pub mod Groups
