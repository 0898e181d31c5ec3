-- Laws of the definitions, and that the code's are those that scaling promises.
pub mod TurnBlock
pub mod Column
pub mod ScaleByPlace
pub mod ByChannel
pub mod TwoSteps
