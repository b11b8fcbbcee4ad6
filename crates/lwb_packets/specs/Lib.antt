pub mod Ranges
pub mod TwoBytes
pub mod Kinds
pub mod Body
pub mod DataPackets
pub mod Requests
