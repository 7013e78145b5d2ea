-- What functions tell each other:
--   Reading  a record as the definitions see it, and what reading the individuals answers
pub mod Reading
