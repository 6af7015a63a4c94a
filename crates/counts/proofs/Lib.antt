pub mod Counts
pub mod Retallied
pub mod Answers
