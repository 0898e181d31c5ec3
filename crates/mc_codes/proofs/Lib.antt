pub mod PartLaws
pub mod FactorLaws
pub mod ClassLaws
pub mod GranuleLaws
pub mod PayloadLaws
pub mod PutLaws
