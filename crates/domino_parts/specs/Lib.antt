-- What functions tell each other:
--   PartWords     sets of parts as words
--   PartTables    tables of them by role set
--   FillerTables  and by label
pub mod PartWords
pub mod PartTables
pub mod FillerTables
