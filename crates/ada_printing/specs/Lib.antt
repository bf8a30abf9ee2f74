pub mod Texts
pub mod internal
