pub mod Answers
pub mod Sequences
pub mod Texts
pub mod Examples
pub mod Room
