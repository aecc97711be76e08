pub mod Checks
pub mod Codes
