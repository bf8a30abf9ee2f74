-- What only private modules and invariants cite.
pub mod Changes
pub mod Counts
pub mod Layers
pub mod Tables
pub mod Links
pub mod Nodes
