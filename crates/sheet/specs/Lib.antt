pub mod Counts
pub mod Lines
pub mod Readers
pub mod Sheets
