mod Blocks
mod Finding
pub mod Laws
pub mod Range
pub mod Possible
pub mod Outcome
pub mod Only
