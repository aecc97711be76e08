pub mod Finishing
pub mod LineLengths
pub mod Reading
pub mod Soundness
pub mod Steps
