pub mod Decimal
pub mod Summary
