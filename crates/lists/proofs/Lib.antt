pub mod Filling
pub mod Formatting
