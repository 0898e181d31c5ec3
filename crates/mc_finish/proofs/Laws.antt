-- That the code's way of finishing is the definition's.
pub mod PredictByLine
pub mod Finish
