pub mod Logarithm
pub mod Types
