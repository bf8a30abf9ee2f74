pub mod Bounds
pub mod internal
