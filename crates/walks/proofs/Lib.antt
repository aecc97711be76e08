pub mod Telling
pub mod Going
pub mod Following
