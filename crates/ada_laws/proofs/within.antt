-- Masters, dependents, blocks and nests.
pub mod Parents
pub mod Reaching
pub mod Depending
pub mod DependentLaws
pub mod Members
pub mod Framing
pub mod Innermost
pub mod Leaving
pub mod Owners
