-- What a log lacks, and what a message waits for.
pub mod InOrder
pub mod LackingRuns
pub mod LackReadings
