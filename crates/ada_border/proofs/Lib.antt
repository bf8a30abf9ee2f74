pub mod OneToOne
pub mod Reading
