-- The definitions of the exported functions.
pub mod Leaves
