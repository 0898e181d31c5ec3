pub mod Scale
pub mod TwoSteps
pub mod Code
