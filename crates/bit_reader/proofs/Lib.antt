pub mod Vectors
pub mod Window
pub mod ReadLaws
pub mod TestLaws
