-- Where a journal forces a step: rows and keys.
pub mod Keys
pub mod Ranks
pub mod TakenCalls
pub mod TouchedKeys
