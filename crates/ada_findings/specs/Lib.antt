pub mod Findings
pub mod Statuses
