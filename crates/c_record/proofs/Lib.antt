pub mod RecordBytes
pub mod PartNumbers
pub mod FieldBytes
pub mod Calls
