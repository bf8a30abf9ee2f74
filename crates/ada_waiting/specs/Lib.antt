pub mod Reasons
pub mod Awaited
pub mod Standstill
pub mod Laws
pub mod Runnable
pub mod internal
