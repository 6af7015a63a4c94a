pub mod Answers
pub mod Ends
pub mod Examples
pub mod Feeding
pub mod Heard
pub mod Short
pub mod Whole
