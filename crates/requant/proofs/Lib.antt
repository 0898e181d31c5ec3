-- what the proofs of several functions use
pub mod Machine
mod Literal
pub mod AsRaw
pub mod Constants
pub mod Digits
pub mod Excess
pub mod Fits
pub mod Flip
