-- A script speaks in names: what is left of it is the same in two journals of which one stands in for the other.
pub mod Passing
pub mod Numbers
pub mod Bindings
pub mod Requests
pub mod Chaining
pub mod Askers
pub mod Picking
pub mod Coming
pub mod Counting
pub mod Keeping
pub mod Speaking
