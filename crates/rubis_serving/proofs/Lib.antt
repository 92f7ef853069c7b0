pub mod GoFacts
pub mod ServedFacts
