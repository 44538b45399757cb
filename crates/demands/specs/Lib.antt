pub mod Device
pub mod Answered
pub mod Ledger
pub mod Faithful
pub mod Uncut
pub mod Together
pub mod Wrong
pub mod Independent
