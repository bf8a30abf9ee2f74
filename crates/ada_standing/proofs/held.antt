-- What holds tasks up, what they are within, and positions: alike after one more event of both journals.
pub mod Renamed
pub mod Saying
pub mod Fitting
pub mod Setting
pub mod Positions
pub mod Phases
pub mod Starting
pub mod Suspending
pub mod Remaining
pub mod Leaving
pub mod Members
pub mod Nests
pub mod Blocks
