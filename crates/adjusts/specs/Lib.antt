pub mod Labels
pub mod Adjusts
