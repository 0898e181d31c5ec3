pub mod LoanLaws
pub mod RunLaws
pub mod StringLaws
pub mod ToldLaws
