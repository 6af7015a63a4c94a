pub mod RecordBytes
pub mod Fields
pub mod AtExit
pub mod Calls
pub mod Claims
