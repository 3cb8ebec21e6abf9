pub mod Activity
pub mod Envelope
pub mod Inner
pub mod Sample
pub mod StateAfter
