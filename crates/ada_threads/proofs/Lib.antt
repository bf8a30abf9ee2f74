pub mod Ending
pub mod Ended
pub mod Mapping
pub mod Beginners
