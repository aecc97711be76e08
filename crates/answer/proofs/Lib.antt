pub mod Slots
pub mod Piles
