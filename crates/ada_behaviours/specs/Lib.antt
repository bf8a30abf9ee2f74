pub mod Behaviours
pub mod Moves
pub mod Same
pub mod Laws
