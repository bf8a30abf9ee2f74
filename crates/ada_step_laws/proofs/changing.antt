-- What one more event changes in queues, nests and outcomes.
pub mod Callers
pub mod Calling
pub mod Distinct
pub mod Existing
pub mod Holding
pub mod KeptQueues
pub mod LatestOutcomes
pub mod LeftBlocks
pub mod NestKinds
pub mod Nesting
pub mod QueueChanges
pub mod QueueKinds
pub mod Releasing
pub mod Saying
pub mod Unnesting
pub mod Within
