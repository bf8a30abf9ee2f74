pub mod Causes
pub mod Declaring
pub mod Doubling
pub mod Layering
