-- What only private contracts and invariants cite: no caller meets it.
pub mod Answers
pub mod Halls
pub mod Printing
