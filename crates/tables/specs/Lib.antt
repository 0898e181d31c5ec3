pub mod Scalefactor
