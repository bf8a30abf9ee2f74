pub mod Makings
pub mod Places
pub mod internal
