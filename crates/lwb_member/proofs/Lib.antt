-- kept for the crates above
pub mod Spoken
pub mod Lengths
pub mod Told
pub mod Answering
pub mod HostPlanned
pub mod Beginning
-- for this crate alone
pub mod AnswersInOrder
pub mod Meanings
pub mod KeptTables
