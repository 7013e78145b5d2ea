pub mod Quantifiers
pub mod Settling
pub mod Calls
pub mod Passes
pub mod Written
pub mod CallsOnWords
pub mod Tables
