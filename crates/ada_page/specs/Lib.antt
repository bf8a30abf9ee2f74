pub mod Standing
pub mod Shows
pub mod internal
