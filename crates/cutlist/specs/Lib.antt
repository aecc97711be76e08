pub mod Cutlists
