mod Lists
mod Phases
mod Objects
mod Told
mod Asking
pub mod Speaking
