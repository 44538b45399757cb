pub mod Putting
pub mod Digits
pub mod Reading
pub mod Numerals
pub mod Plain
