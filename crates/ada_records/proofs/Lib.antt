pub mod recording
pub mod holding
pub mod turning
pub mod phase_changes
pub mod following
