pub mod FloodState
pub mod Relaying
pub mod Runs
