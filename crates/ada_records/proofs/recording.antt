-- What one more event changes in records, and what records tell.
pub mod Changing
pub mod Creations
pub mod EventKinds
pub mod Queries
pub mod RecordChanges
pub mod Stages
pub mod Starting
pub mod Suspensions
pub mod Sweeping
pub mod TaskEnds
pub mod Unmade
