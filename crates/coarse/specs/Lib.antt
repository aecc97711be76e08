pub mod Coarse
pub mod CoarseLaws
pub mod Ratios
