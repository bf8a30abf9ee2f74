pub mod Table
pub mod Going
pub mod internal
