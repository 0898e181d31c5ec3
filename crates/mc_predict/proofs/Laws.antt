-- Laws of the definitions in the order in which the code works.
pub mod Chosen
pub mod PlaceIn
pub mod Subband
pub mod Group
