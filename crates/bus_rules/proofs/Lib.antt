-- kept for the crates above
pub mod Ranks
pub mod Grants
pub mod Switches
-- for this crate alone
mod Examples
mod PlanExamples
mod SmallSendings
