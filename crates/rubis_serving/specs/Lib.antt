pub mod Outlets
pub mod Writers
pub mod Serving
