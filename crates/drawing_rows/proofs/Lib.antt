pub mod Joining
pub mod RowBytes
pub mod Filling
pub mod Numbering
