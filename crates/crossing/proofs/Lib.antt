pub mod Bounds
pub mod BuiltIn
mod Downwards
mod Interpolation
pub mod Searching
mod Signs
mod Sizes
