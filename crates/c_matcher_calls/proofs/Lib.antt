pub mod Spelled
pub mod Answers
pub mod Claims
