pub mod Eeprom
pub mod Gbatek
