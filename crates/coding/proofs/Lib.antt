pub mod Bytes
mod Decoding
pub mod Laws
pub mod Numbers
pub mod Parts
