-- kept for the crates above
pub mod AlignedSlots
pub mod SameDrops
pub mod SlotSends
-- for this crate alone
mod ScriptedCores
