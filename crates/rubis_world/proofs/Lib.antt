pub mod Common
pub mod Moves
pub mod Answering
pub mod Leading
pub mod HeadlineExamples
