pub mod Shops
pub mod Events
pub mod Laws
pub mod Sites
