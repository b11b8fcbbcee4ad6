pub mod Sendings
pub mod Waiting
