-- What each kind of event changes in queues and nests, and whose phase.
pub mod ReleasedKinds
pub mod NestTurns
pub mod QueueTurns
pub mod RendezvousTurns
pub mod EndingTurns
pub mod MasterTurns
pub mod SuspensionTurns
pub mod Renesting
pub mod Requeuing
