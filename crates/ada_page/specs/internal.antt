-- What only private contracts and invariants cite: no caller meets it.
pub mod Queued
