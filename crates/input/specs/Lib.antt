pub mod Inner
pub mod Source
pub mod Streams
