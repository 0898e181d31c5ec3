pub mod Output
pub mod Code
