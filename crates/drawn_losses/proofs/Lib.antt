-- for this crate alone
pub mod LossesFound
pub mod FloodsOverBase
pub mod FloodsInTurn
