pub mod Grouping
