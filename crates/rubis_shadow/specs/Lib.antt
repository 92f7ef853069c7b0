pub mod Renames
pub mod Shadows
pub mod Tables
pub mod Freed
pub mod Changes
