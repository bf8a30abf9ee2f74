-- Tables that follow an event stand for the journal with it.
pub mod Entries
pub mod SlotsApart
pub mod Empty
pub mod Agreeing
pub mod Standing
pub mod TableChanges
pub mod Followed
pub mod Known
pub mod Allowed
pub mod Applied
pub mod Listed
pub mod Made
pub mod Refreshing
pub mod Renested
pub mod Requeued
