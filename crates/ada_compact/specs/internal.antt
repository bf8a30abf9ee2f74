-- What only private contracts cite: no caller meets it.
pub mod Keeping
pub mod Kinds
pub mod Making
pub mod Nesting
pub mod Starting
