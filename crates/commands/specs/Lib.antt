pub mod Events
pub mod Obeying
