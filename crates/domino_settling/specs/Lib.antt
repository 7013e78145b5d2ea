-- What functions tell each other:
--   Sweeps    what the steps of settling take out
--   Settling  what settling leaves and answers
pub mod Sweeps
pub mod Settling
