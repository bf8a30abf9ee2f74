pub mod Cursor
pub mod Script
pub mod Spelling
pub mod internal
