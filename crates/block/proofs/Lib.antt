mod Conditions
pub mod Laws
pub mod Made
mod Numbers
