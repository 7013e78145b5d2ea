pub mod Covering
pub mod Counting
pub mod Opening
pub mod Fits
