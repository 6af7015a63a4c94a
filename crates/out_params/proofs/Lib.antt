pub mod NoneIsZero
