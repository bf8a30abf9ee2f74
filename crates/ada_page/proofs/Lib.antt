pub mod Doings
pub mod Lists
pub mod Showing
pub mod Following
pub mod Growing
