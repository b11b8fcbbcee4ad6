-- kept for the crates above
pub mod DrawnPasses
pub mod DrawnByLinks
pub mod LastOnes
-- for this crate alone
pub mod CoinStates
pub mod StepsInForce
pub mod LinksKept
pub mod KeptBits
