-- What functions tell each other:
--   Rows  the role sets between individuals as bytes of words
pub mod Rows
