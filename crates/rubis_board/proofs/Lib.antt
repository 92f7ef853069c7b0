pub mod Views
pub mod Takes
