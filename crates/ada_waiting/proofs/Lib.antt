pub mod Numbers
pub mod Holding
mod Reasoning
mod Settling
pub mod Moments
pub mod Ticking
mod Standing
pub mod Awaiting
mod Unawaited
mod Kept
mod Groups
mod Going
