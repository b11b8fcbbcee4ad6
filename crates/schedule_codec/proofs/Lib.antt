-- kept for the crates above
pub mod Widths
pub mod Readings
pub mod Heads
-- for this crate alone
pub mod Numbers
pub mod Streams
pub mod Packs
pub mod Lists
pub mod Sums
pub mod CodeBytes
mod LeastWidths
pub mod AckRuns
pub mod Examples
