pub mod Feeding
pub mod Sharing
pub mod ByTransfer
