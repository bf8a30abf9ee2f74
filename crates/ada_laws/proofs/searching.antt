-- What a search of a journal finds.
pub mod Searching
pub mod Gathering
pub mod Growing
pub mod Saying
pub mod Numbering
pub mod Sums
