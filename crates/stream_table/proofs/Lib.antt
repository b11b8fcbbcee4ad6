-- kept for the crates above
pub mod CodeOrder
pub mod Order
pub mod Changes
-- for this crate alone
pub mod InOrder
pub mod Edits
