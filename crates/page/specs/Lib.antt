pub mod Page
pub mod SystemError
pub mod Waiting
