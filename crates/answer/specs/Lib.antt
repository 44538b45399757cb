pub mod Answers
pub mod Giving
pub mod Theorems
