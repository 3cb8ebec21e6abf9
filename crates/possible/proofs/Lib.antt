pub mod Below
mod Counters
