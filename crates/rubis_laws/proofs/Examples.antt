-- Examples that are computed on the definitions.
pub mod ProcessExamples
pub mod DeliveredExamples
pub mod LackExamples
pub mod RebuildExamples
