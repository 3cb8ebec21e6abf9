pub mod Block
pub mod Refusals
pub mod Written
