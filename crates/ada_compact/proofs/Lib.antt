pub mod Equal
mod Nesting
mod Holding
mod Suspended
mod StandingIn
mod Positions
mod Placed
mod Kept
