pub mod DigitLaws
pub mod SummaryLaws
