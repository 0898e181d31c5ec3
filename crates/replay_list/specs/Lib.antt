pub mod Values
pub mod Opening
pub mod Outcome
