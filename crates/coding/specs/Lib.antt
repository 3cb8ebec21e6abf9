pub mod Numbers
pub mod Samples
pub mod Typed
