-- What tasks wait for, alike.
pub mod Suspended
pub mod Reasons
pub mod Dues
pub mod Standstill
pub mod Awaited
pub mod First
pub mod Laws
