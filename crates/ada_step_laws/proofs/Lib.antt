pub mod rows
pub mod changing
pub mod holding
pub mod newly
