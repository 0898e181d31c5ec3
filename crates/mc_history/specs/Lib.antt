pub mod History
pub mod HistoryBy
