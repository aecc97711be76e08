pub mod Searches
pub mod Alike
pub mod Labels
pub mod Adjust
pub mod Offers
