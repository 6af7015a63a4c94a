pub mod MatcherBytes
pub mod Calls
pub mod Claims
