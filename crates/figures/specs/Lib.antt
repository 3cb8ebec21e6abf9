pub mod Blocks
pub mod Meters
pub mod Rows
pub mod Table
