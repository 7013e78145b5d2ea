-- What functions tell each other:
--   Trees       a concept or a role of the table, as the code goes down it
--   Origins     what the code holds of each part, read as the parts of the definitions
--   Order       the code's way through the queue
--   AlikeParts  the search for a part alike
--   Adding      what going through concepts and the queue adds to the parts
pub mod Trees
pub mod Origins
pub mod Order
pub mod AlikeParts
pub mod Adding
