pub mod Beginning
pub mod internal
