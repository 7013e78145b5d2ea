pub mod Listing
pub mod RoleRecords
pub mod Pieces
pub mod Lengths
pub mod PutInTurn
