-- for this crate alone
pub mod LossLines
pub mod StillInOrder
