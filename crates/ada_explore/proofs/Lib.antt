mod Places
mod Picking
mod Acting
pub mod naming
mod Shapes
mod Choosing
mod Sameness
