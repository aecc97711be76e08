pub mod Places
pub mod Closed
pub mod Bares
pub mod Parities
pub mod Shrinks
pub mod Dissolves
