-- What is asked of two journals of which one stands in for the other: questions and requests.
pub mod Answering
pub mod Naming
pub mod Nested
pub mod ByName
pub mod ByEntry
pub mod ByNest
pub mod ByMoment
pub mod Refusing
