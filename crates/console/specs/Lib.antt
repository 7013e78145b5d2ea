-- What must be believed:
--   Input   what follows a read
--   Output  what was handed to standard output
pub mod Input
pub mod Output
