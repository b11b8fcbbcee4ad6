-- kept for the crates above
pub mod Readings
pub mod DueTicks
-- for this crate alone
pub mod JumpDues
pub mod Walks
pub mod KeptSegments
