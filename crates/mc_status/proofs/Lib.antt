pub mod StatusLaws
pub mod PartLaws
