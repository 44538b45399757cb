pub mod Ends
pub mod Keeping
pub mod Opened
