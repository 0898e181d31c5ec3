pub mod OpeningLaws
pub mod OutcomeLaws
pub mod ValuesLaws
