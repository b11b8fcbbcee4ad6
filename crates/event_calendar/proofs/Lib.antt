-- kept for the crates above
pub mod OneOrder
pub mod QueuesOfMaps
-- for this crate alone
pub mod FirstOfQueues
pub mod OrdersThatWait
