pub mod Numerals
pub mod Tokens
