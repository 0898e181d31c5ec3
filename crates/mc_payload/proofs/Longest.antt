pub mod Bound
pub mod Example
pub mod Holds
pub mod Most
pub mod Sums
pub mod Zeros
