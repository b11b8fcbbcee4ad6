-- kept for the crates above
pub mod CollectedLosses
pub mod LinesWithLosses
pub mod LossesInRange
pub mod DrawnOver
-- for this crate alone
pub mod LinesAmong
pub mod FloodsAlike
pub mod RoundsAlike
pub mod BusesAlike
pub mod KeptInRanks
pub mod KeptFloods
pub mod FewOwners
pub mod LossesApart
pub mod WorkedLosses
pub mod SameLinks
pub mod RatiosInForce
