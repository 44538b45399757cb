pub mod Kit
pub mod First
pub mod Tables
pub mod Bytes
pub mod Filling
