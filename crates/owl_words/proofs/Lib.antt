pub mod Tokening
