-- Worked examples: what the laws refuse, on runs that are computed on the definitions.
pub mod ExampleRuns
pub mod OpeningExamples
pub mod TellingExamples
pub mod TokenExample
pub mod StandbyExample
