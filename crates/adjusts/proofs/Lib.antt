pub mod Accepting
pub mod Bounding
pub mod Labelling
