pub mod Flags
pub mod internal
pub mod Views
