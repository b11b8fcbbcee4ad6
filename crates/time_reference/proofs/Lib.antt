-- kept for the crates above
pub mod BudgetRoom
pub mod Run
pub mod Rounds
pub mod Points
pub mod Steps
pub mod ProfileSizes
pub mod HeardZeros
-- for this crate alone
pub mod Ages
