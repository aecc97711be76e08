pub mod Lengths
pub mod LengthLaws
