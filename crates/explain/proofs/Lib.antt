pub mod Short
pub mod Said
pub mod Same
pub mod Packets
