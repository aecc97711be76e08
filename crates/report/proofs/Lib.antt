pub mod Answer
pub mod Capped
pub mod Decimal
pub mod Telling
