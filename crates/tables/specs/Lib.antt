pub mod Nodes
pub mod States
pub mod Kept
pub mod Prices
