pub mod Found
pub mod BoundNames
pub mod Bytes
pub mod Placed
