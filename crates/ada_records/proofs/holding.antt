-- What the tables find by holders of masters, and what they take out of nests.
pub mod Cuts
pub mod Walking
