pub mod Crossing
pub mod Exponents
pub mod Inner
pub mod Levels
pub mod Searched
