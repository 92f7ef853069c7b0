pub mod Crashes
pub mod Shops
pub mod Histories
pub mod Rewriting
pub mod Folders
pub mod Calls
