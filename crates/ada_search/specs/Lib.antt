pub mod Findings
pub mod internal
