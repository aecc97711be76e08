pub mod Members
pub mod NumberingLaws
