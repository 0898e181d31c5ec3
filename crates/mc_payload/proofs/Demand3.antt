pub mod Accepted
pub mod Decided
pub mod Fields
pub mod Holds
pub mod Values
pub mod Widths
