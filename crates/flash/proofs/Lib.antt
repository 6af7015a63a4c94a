pub mod Sound
pub mod Commands
