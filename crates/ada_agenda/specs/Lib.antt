pub mod Bits
pub mod Rows
pub mod internal
pub mod Keeping
