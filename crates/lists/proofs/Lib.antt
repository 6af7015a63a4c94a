pub mod Bools
pub mod Questions
pub mod Digits
pub mod Parts
pub mod Erased
pub mod Fronts
