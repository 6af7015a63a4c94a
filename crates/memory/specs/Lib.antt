pub mod Memory
pub mod Replaced
