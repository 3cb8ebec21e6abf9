pub mod Below
pub mod Laws
pub mod Places
