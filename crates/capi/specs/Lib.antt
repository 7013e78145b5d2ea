-- What must be believed:
--   Out  what the exported functions return and write
pub mod Out
