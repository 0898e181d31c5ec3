pub mod Holds
pub mod Own
