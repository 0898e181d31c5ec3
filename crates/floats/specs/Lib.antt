pub mod Decimal
pub mod Raw
pub mod Within
pub mod Binary64
