pub mod Walk
pub mod Bare
pub mod Augment
pub mod Theorems
pub mod Examples
