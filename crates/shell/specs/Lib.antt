pub mod Arguments
pub mod Voices
pub mod Sources
