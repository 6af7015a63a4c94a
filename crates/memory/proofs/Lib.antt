pub mod Memory
pub mod Counts
pub mod Replaced
pub mod Loads
