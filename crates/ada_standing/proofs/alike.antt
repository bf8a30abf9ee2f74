-- Two journals of which one stands in for the other are alike: what matters of both, and the steps that both force.
pub mod Searches
pub mod Kinds
pub mod Orderly
pub mod Pairs
pub mod Phases
pub mod Mastering
pub mod Passing
pub mod Calling
pub mod Queueing
pub mod Rows
pub mod Activating
pub mod Terminating
pub mod Forcing
