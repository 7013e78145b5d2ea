-- What must be believed:
--   Answers     what checking a drawn interpretation answers and leaves
--   Demanded    refusals of both calls, and what is drawn
--   DrawnPlant  what drawing one answers and leaves
-- What functions tell each other:
--   Successors  the tables of individuals; an individual's successors, and the label that follows
--   Drawings    rows, labels, dominoes and pairs of a drawn interpretation
-- What statements about these definitions use:
--   Examples    the worked drawings of plants
pub mod Answers
pub mod Demanded
pub mod DrawnPlant
pub mod Successors
pub mod Drawings
pub mod Examples
