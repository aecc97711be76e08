pub mod Shrink
pub mod Dissolve
pub mod Theorems
