pub mod Bits
pub mod Syntax
pub mod Table
pub mod Total
pub mod Recovers
