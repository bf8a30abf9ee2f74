-- What only private contracts and invariants cite: no caller meets it.
pub mod Indexes
pub mod Stepping
