-- What must be believed:
--   Sheet  how much the evening program reads, and what it prints
pub mod Sheet
