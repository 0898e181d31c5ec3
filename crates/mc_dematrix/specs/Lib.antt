pub mod Dematrix
