-- What must be believed:
--   Decimals  numbers in decimal digits
--   Lines     the lines of the evening program
pub mod Decimals
pub mod Lines
