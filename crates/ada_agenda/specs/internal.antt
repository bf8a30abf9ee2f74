-- What only private contracts and invariants cite: no caller meets it.
pub mod Bits
pub mod Rows
pub mod Keeping
