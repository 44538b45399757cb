pub mod Words
pub mod Explaining
