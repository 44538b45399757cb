pub mod Differing
pub mod Listing
pub mod Turns
pub mod Theorems
pub mod Reading
