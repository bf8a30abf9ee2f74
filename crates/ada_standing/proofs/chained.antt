-- Journals that stand in for others: one after the other, and with fewer names.
pub mod Names
pub mod Holds
pub mod Chain
pub mod Enough
pub mod Fewer
pub mod Closing
pub mod Quiet
