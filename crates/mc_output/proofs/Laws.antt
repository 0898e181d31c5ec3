-- Laws of the definitions, and that the code's are those that the output promises.
pub mod OutputByMix
pub mod LayOut
pub mod BaseAlone
pub mod Stores
