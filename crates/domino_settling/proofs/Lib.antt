pub mod Converses
pub mod Passed
pub mod Settled
pub mod Sweeps
