pub mod Holding
pub mod Waiting
