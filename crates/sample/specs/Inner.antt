-- What the functions inside this crate promise one another. Nothing here is part of what a meter promises.
pub mod Around
pub mod Bands
pub mod Counters
pub mod Over
pub mod Runs
pub mod Steps
