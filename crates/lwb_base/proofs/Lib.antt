-- kept for the crates above
pub mod Truths
pub mod Options
pub mod Orders
pub mod Lists
pub mod Elements
pub mod NumbersOfRanges
pub mod StableSorts
pub mod LinesAbove
-- for this crate alone
mod KnownPieces
