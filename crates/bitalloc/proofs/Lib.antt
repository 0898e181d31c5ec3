pub mod Places
pub mod Rules
