pub mod Largest
pub mod Laws
