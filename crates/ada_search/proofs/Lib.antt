pub mod Closing
pub mod Steps
pub mod Standstill
pub mod Free
