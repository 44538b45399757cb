pub mod Pulling
pub mod ByTransfer
