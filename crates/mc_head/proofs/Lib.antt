pub mod HeadLaws
pub mod AnswerLaws
