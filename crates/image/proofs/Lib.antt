pub mod Answers
pub mod Complement
pub mod Examples
