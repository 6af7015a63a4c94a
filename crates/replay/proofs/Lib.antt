pub mod Pieces
pub mod Shown
pub mod Same
pub mod Runs
pub mod Whole
pub mod Encoded
