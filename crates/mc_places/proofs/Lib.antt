pub mod PlacesBuilt
pub mod PlacesLaws
