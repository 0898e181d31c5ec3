pub mod Checked
pub mod Fault
pub mod File
