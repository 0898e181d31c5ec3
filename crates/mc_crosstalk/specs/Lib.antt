pub mod Crosstalk
pub mod Predictors
