pub mod Polynomial
pub mod Folds
pub mod Digits
pub mod Doubling
pub mod Rounds
pub mod Joining
pub mod Parts
pub mod Examples
