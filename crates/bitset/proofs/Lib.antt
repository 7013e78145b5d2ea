pub mod Facts
pub mod Laws
pub mod Words
pub mod Sizes
pub mod RunLaws
pub mod AddedLaws
