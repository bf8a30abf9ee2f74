pub mod Schedules
pub mod Closed
pub mod Stuck
pub mod Laws
