pub mod Calls
pub mod Theorems
pub mod Cases
pub mod Formatting
