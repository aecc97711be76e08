pub mod Searches
pub mod Adjust
pub mod Theorems
pub mod Kinds
