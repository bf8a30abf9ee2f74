-- Laws of lawful journals: which masters live tasks are within.
pub mod Leaving
pub mod Nesting
pub mod Climbing
pub mod Living
pub mod Starting
pub mod Waiting
pub mod Orderly
pub mod Fitting
pub mod FittingHeld
pub mod Laws
