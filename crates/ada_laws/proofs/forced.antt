-- What a journal forces, step by step.
pub mod Rows
pub mod Stepping
pub mod Forcing
pub mod Working
pub mod Parts
