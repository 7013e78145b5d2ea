-- What must be believed:
--   Sets         sets of which the members below a bound count; every and some below a bound
--   Elimination  Definition 5's step and its iteration, stable sets, the canonical set
--   Calls        lists of strikes and settlings, on sets and on words, and demand 3
-- What proofs and statements about these definitions use:
--   Tables       the same iteration, computed in words
pub mod Sets
pub mod Elimination
pub mod Calls
pub mod Tables
