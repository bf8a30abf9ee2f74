pub mod Positions
pub mod worked
mod Entries
pub mod Dues
pub mod Lists
pub mod Beginnings
pub mod Earlier
pub mod Families
