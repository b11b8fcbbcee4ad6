pub mod CodeOrder
pub mod Requests
pub mod Entries
