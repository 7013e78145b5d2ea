pub mod Erasing
pub mod Narrowing
pub mod Fetching
pub mod RoundTrip
pub mod Returning
pub mod Verdicts
pub mod Worked
