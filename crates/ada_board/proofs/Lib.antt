pub mod Truth
pub mod Beginnings
pub mod Adding
pub mod Public
pub mod Reading
