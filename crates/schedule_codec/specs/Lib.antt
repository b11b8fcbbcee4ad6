pub mod Packing
pub mod OwnerLists
pub mod AckLists
pub mod Spelling
pub mod Reading
