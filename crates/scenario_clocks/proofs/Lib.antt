-- kept for the crates above
pub mod NodeRates
pub mod StatedDrift
pub mod ListedClocks
pub mod StatedPlaces
