pub mod RunFacts
pub mod ReadingFacts
pub mod RowFacts
pub mod TextFacts
pub mod ReadBack
pub mod SeamFacts
