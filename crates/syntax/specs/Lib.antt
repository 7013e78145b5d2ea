-- What must be believed:
--   Concepts  roles, concepts, axioms and role inclusions as trees, and the tree of a record
--   Normal    negation normal form
--   Flatten   parts, fresh names and flattened axioms, by the list of rules
--   Truth     flattened axioms on labels, role expressions and role inclusions on role sets
--   Reading   from bytes to a knowledge base or a refusal; the numbers of refusals
--   Parts     kind, filler and role of a part as numbers
--   Counts    how many parts of each kind there are
--   Answers   what read and list marks say and leave; the limit on c + L
--   WrittenAlike  the same rules, whatever the numbers of their records; names and roles that occur in rules
-- What proofs and statements about these definitions use:
--   Laid      a list of records as bytes, and which lists may be a sheet's
--   Bounds    numbers and roles of concepts, axioms, role inclusions and parts
--   Examples  the worked sheets as rows of one table
pub mod Concepts
pub mod Normal
pub mod Flatten
pub mod Truth
pub mod Reading
pub mod Parts
pub mod Counts
pub mod Answers
pub mod Laid
pub mod WrittenAlike
pub mod Bounds
pub mod Examples
