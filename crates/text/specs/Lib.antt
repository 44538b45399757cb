pub mod Ink
pub mod Numbers
pub mod Plain
pub mod Reading
