pub mod Host
pub mod Claims
pub mod CutBytes
pub mod Version
