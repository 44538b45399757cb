pub mod Formats
pub mod Masks
pub mod Theorems
