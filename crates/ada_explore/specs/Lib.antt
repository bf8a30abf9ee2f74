pub mod Picks
pub mod Scripts
pub mod Sameness
pub mod Findings
pub mod internal
