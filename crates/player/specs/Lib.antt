pub mod Playing
pub mod Lines
pub mod Steps
pub mod Theorems
