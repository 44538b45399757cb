pub mod Truth
pub mod First
pub mod Tables
pub mod Each
pub mod Filling
pub mod Parts
