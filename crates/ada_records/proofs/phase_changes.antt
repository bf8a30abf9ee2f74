-- Which phases an event changes.
pub mod RecordedPhases
pub mod KeptPhases
pub mod OnePhase
pub mod OnePhaseKinds
pub mod TouchedTasks
pub mod Quitting
