pub mod Text
pub mod Scope
pub mod Binding
pub mod internal
