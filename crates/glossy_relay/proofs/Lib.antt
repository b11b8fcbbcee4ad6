-- kept for the crates above
pub mod CountedPackets
pub mod Spellings
-- for this crate alone
pub mod Packets
pub mod WholeRuns
pub mod Counters
