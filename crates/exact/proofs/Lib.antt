mod Ahead
mod Calls
mod Envelope
mod Powers
mod Written
pub mod AsStated
pub mod Claim
pub mod Crossings
pub mod Demand3
mod Guard
pub mod Lost
pub mod Margins
pub mod NoOffset
pub mod Signs
pub mod Tied
pub mod TwoCards
