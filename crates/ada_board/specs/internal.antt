-- What only private contracts and invariants cite: no caller meets it.
pub mod Histories
pub mod Readers
pub mod Writers
