pub mod Senses
pub mod States
