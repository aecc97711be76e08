pub mod Lists
pub mod ListRows
pub mod ListLaws
pub mod Pile
