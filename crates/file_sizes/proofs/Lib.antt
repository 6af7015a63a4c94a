pub mod Fits
pub mod Examples
pub mod Largest
pub mod Halves
