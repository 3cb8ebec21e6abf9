pub mod Answered
pub mod Calls
pub mod Inner
pub mod Opened
pub mod Refusals
pub mod Reports
