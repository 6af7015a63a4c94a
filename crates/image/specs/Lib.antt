pub mod Image
pub mod Gbatek
