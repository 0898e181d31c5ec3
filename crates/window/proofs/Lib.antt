pub mod WindowLaws
pub mod ThreeLaws
