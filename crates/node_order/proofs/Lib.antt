pub mod Lists
pub mod NodePlaces
