pub mod Emitted
pub mod Lines
pub mod Beyond
pub mod Exporting
