pub mod ThinCall
