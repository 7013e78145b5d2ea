-- What must be believed:
--   Bits  sets of numbers as binary digits, of one number and of words of 64; the words needed
-- What functions tell each other:
--   Runs  runs of numbers kept, emptied, filled, put in
pub mod Bits
pub mod Runs
