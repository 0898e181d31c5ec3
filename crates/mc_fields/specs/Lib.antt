pub mod Head
pub mod Lent
