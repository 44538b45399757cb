pub mod World
pub mod Refusals
pub mod Theorems
