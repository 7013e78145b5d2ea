pub mod WordTables
pub mod Dropping
pub mod MaskBits
pub mod MaskWords
pub mod Opened
