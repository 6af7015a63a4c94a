pub mod Matcher
pub mod Reading
pub mod Quiet
pub mod Search
pub mod Claims
