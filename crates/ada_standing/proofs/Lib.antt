pub mod Placing
mod Sameness
mod Deciding
mod Passing
mod HeldAlike
mod Decided
mod Unmatched
mod worked
pub mod alike
pub mod lawful
pub mod asked
pub mod kept
pub mod held
pub mod led
pub mod chained
