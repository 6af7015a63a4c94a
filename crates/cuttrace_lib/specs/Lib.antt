pub mod Lines
pub mod Printing
pub mod Setup
pub mod Cuttrace
pub mod Claims
