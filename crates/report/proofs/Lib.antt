pub mod Decimals
pub mod StdDecimals
pub mod Reporting
pub mod Front
pub mod Worked
