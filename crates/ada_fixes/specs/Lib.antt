pub mod Fixes
pub mod internal
