pub mod Requant
