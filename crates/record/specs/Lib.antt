pub mod Records
pub mod Waiting
pub mod Holding
