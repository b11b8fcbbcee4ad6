-- kept for the crates above
pub mod Orders
pub mod MaskBits
pub mod SmallSeals
pub mod Inserted
-- for this crate alone
pub mod Together
pub mod SlotParts
pub mod SlotNumbers
pub mod CaptureKeys
pub mod MasksOfPassing
