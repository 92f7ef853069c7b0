pub mod Common
pub mod Dealt
pub mod Folded
pub mod Order
pub mod Counting
pub mod Follows
