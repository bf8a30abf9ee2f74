pub mod Running
pub mod internal
pub mod Orders
pub mod Opening
pub mod Reports
pub mod Reading
