pub mod Below
pub mod Passing
