pub mod Turns
pub mod Sound
pub mod Allowed
pub mod Bits
pub mod Commands
pub mod Fits
