pub mod Facts
pub mod Leading
