pub mod Lending
pub mod Telling
pub mod Stepping
pub mod Lengths
pub mod Theorems
