-- kept for the crates above
pub mod SameBefore
-- for this crate alone
mod EntriesApart
mod FloodFacts
mod HeardApart
mod InTurn
mod KeptApart
mod OfTrails
mod OneFloodLog
mod OneLog
mod OneText
mod SameCosts
mod SameElements
mod TunedBack
