-- the codes by the tables that the code holds
pub mod Parts
pub mod Outcome
