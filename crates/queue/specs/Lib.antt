-- What must be believed:
--   Queue  what is said of a queue's bytes
--   Lines  what is printed
--   Steps  a step from totals and an input: its line, and how much it reads; a turn of the program, from what was read
pub mod Queue
pub mod Lines
pub mod Steps
