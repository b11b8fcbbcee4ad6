mod DecimalWords
mod OneWord
mod Runs
mod TextsDue
-- kept for the crates above
pub mod WholeInputs
