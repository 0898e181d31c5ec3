pub mod String
pub mod Loan
pub mod Told
pub mod Run
