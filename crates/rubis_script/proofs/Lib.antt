pub mod Common
pub mod WindowFacts
pub mod LeadFacts
pub mod HeadlineExamples
pub mod DeskFacts
pub mod StretchFacts
pub mod EndFacts
pub mod Names
