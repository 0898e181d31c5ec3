-- the places by the tables that the code holds
pub mod PlacesBy
