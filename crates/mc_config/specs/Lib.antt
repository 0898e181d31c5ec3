pub mod Config
pub mod Groups
pub mod Reading
pub mod Records
