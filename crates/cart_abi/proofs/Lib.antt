pub mod Refused
pub mod CutBytes
