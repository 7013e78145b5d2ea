pub mod Parsing
pub mod Putting
pub mod Counting
pub mod Stepping
pub mod Importing
