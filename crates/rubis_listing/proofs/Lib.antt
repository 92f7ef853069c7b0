pub mod Common
pub mod Selecting
pub mod ByTable
pub mod Making
