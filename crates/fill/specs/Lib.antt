pub mod Tab
pub mod Each
pub mod By
pub mod Strided
