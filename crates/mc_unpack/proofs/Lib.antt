pub mod EntryLaws
pub mod RecordLaws
pub mod SamplesLaws
pub mod SettledLaws
