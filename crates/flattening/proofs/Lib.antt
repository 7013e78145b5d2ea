pub mod AlikeSearch
pub mod CodeOrder
pub mod NodeForms
pub mod NormalForms
pub mod PartLists
pub mod QueueParts
pub mod RoleTrees
pub mod Walks
