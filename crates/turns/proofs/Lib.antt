pub mod Turning
pub mod Theorems
