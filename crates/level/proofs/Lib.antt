pub mod Exact
pub mod Powers
mod Squarings
pub mod Laws
mod Tight
pub mod Words
