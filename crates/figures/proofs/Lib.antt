pub mod Figures
pub mod Rows
pub mod Tests
