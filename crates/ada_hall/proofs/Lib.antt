pub mod Places
pub mod ByPlace
pub mod Tied
pub mod Slots
pub mod Counts
pub mod Telling
pub mod Keeping
pub mod Printed
