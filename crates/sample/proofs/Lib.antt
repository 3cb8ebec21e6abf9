pub mod Activity
mod Bands
mod Counts
pub mod Envelope
mod Moved
mod Over
mod Ran
mod Settling
pub mod Signs
mod Turning
