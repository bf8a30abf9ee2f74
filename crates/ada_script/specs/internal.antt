-- What only private contracts and invariants cite: no caller meets it.
pub mod Fault
pub mod Number
pub mod Printable
pub mod Reading
pub mod Spaces
pub mod Verbs
pub mod Writing
