pub mod Session
pub mod Trace
pub mod Claims
