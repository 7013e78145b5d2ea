pub mod Defects
pub mod Polarity
pub mod Rows
pub mod Shifts
pub mod Witnesses
