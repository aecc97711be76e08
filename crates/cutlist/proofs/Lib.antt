pub mod Branch
pub mod First
pub mod Passed
