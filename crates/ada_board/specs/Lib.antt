pub mod Answers
pub mod Histories
pub mod Publishing
pub mod Sights
pub mod Writers
pub mod Telling
pub mod internal
