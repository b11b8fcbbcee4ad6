pub mod Messages
pub mod Profile
pub mod Causes
pub mod Outside
pub mod Reading
pub mod Orders
pub mod Sorting
