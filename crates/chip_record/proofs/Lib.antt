pub mod ChipState
pub mod Fields
pub mod Layouts
pub mod Examples
