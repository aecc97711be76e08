pub mod Filling
pub mod Passing
pub mod Refusing
pub mod Holding
pub mod Parting
