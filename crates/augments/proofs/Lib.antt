pub mod Turns
pub mod Loads
pub mod Places
pub mod Works
pub mod Ways
pub mod Loosing
