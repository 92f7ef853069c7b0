pub mod Footprint
pub mod Rows
pub mod InLimits
pub mod Entries
pub mod Listed
pub mod PartFacts
pub mod Examples
