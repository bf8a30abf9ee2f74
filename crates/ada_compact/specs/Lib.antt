pub mod Kept
pub mod internal
