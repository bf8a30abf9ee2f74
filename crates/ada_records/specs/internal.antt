-- What only private contracts and invariants cite: no caller meets it.
pub mod Records
pub mod Facing
pub mod Phasing
pub mod Ending
