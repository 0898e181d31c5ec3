pub mod Predict
pub mod Code
