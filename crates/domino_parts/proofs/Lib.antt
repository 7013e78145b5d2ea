pub mod WordsByPart
pub mod Making
pub mod Fillers
