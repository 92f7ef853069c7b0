pub mod Rule
pub mod States
pub mod Both
pub mod Laws
