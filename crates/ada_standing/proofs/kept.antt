-- One more event of both journals: what stood for the other's still does.
pub mod Saying
pub mod Fitting
pub mod Naming
pub mod Newness
pub mod Moments
pub mod Terminating
pub mod Tasks
pub mod Phases
pub mod Making
pub mod Depending
pub mod Outcomes
pub mod Becoming
pub mod Standing
