-- What proofs and statements about judging use:
--   Labels  what a set of labels spans, and which of its labels have their witnesses there
--   Sums    a number for each run, summed
pub mod Labels
pub mod Sums
