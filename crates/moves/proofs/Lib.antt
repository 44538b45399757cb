pub mod Blocks
pub mod Spans
pub mod Leaving
