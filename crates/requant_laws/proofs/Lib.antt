pub mod Bounds
pub mod OneToOne
