-- What only private contracts and invariants cite: no caller meets it.
pub mod Hitting
pub mod Choosing
pub mod Deciding
pub mod Ending
