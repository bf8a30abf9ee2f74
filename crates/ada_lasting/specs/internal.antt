-- What only proofs cite: no caller meets it.
pub mod Present
pub mod Nameable
pub mod Keeping
pub mod NamesBack
pub mod Causes
pub mod Moving
pub mod Mastering
pub mod Reasons
pub mod Awaiting
pub mod Ended
pub mod Outcomes
pub mod Events
