-- kept for the crates above
pub mod JoinedNumbers
-- for this crate alone
pub mod Places
