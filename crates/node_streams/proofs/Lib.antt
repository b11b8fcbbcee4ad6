pub mod InTurn
pub mod Hearing
