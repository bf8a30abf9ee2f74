-- What only private contracts and proofs cite: no caller meets it.
pub mod Covering
