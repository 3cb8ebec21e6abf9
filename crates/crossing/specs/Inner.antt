-- What the functions inside this crate promise one another, and the border of `find_levels`. Nothing here is part of what a meter promises.
pub mod FindLevels
pub mod Measurement
pub mod Steps
