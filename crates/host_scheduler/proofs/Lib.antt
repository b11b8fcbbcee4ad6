-- kept for the crates above
pub mod Shares
-- for this crate alone
pub mod Sifted
pub mod Owing
pub mod Counted
pub mod Bridge
pub mod Planned
