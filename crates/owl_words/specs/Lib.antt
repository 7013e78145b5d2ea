-- What must be believed:
--   Words  the known words and how they are spelled; the tokens of a text
pub mod Words
