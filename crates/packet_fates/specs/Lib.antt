pub mod PacketOrder
pub mod OneRun
pub mod Clearings
pub mod Tables
pub mod Counts
pub mod Latencies
pub mod Hosted
