pub mod HistoryLaws
pub mod Stores
