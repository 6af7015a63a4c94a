pub mod ChipState
pub mod States
