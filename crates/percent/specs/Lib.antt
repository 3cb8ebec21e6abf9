pub mod Inner
pub mod Percent
