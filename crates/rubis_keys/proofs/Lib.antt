mod MapFacts
mod RowFacts
pub mod BareFacts
pub mod KnownFacts
mod StepFacts
mod TakeFacts
mod KeyedRunFacts
