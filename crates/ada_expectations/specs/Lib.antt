pub mod Endings
pub mod Expectations
pub mod Plays
pub mod internal
