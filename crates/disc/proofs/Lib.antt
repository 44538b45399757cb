pub mod Discs
