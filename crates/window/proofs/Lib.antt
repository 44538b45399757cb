pub mod Windows
pub mod Holding
pub mod Streams
pub mod Loops
pub mod Filling
