pub mod Common
pub mod ChunkFacts
pub mod CutFacts
pub mod QuoteFacts
pub mod PieceFacts
pub mod EndFacts
pub mod LookFacts
