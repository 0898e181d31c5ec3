-- Definitions in the order in which the code works: what its inner functions promise.
pub mod Strided
pub mod Column
pub mod ScaleByPlace
pub mod TwoSteps
