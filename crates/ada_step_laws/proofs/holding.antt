-- Who holds a master, and how blocks nest.
pub mod NestedBlocks
pub mod Enclosing
pub mod LiveHolders
pub mod PendingNests
