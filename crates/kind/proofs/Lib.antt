pub mod Sizes
pub mod Numbers
pub mod Standing
pub mod Examples
