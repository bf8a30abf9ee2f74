-- Boards that are true of a journal.
pub mod ShowingLaws
pub mod Publishing
