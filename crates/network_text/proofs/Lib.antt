-- Lemmas of the crate.
mod NetworkTextExamples
mod NetworkNodes
mod LinksAsked
mod NetworkTexts
-- kept for the crates above
pub mod SaidNetworks
