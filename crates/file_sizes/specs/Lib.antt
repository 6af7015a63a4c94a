pub mod SaveFit
pub mod Doubled
pub mod Claims
