-- What must be believed:
--   Grammar    what is read of a text, as axioms, or the first refusal in it
--   RecordsOf  the records of axioms as import writes them
--   Import     what import is to write of a text
pub mod Grammar
pub mod RecordsOf
pub mod Import
-- What methods tell each other:
--   Steps      how far a text is read, and what is written of it
pub mod Steps
