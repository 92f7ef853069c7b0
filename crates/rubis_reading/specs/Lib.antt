pub mod Streams
pub mod Chunked
pub mod Readings
