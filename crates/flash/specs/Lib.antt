pub mod Flash
pub mod Gbatek
