pub mod Alike
pub mod PayloadYields
pub mod ReadingLaws
pub mod UnpackLaws
pub mod Demand3
pub mod Counting
pub mod Excess
pub mod Longest
