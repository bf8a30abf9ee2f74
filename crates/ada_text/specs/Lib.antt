pub mod Places
pub mod Trees
pub mod internal
