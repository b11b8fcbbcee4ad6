-- kept for the crates above
pub mod JoinedWords
pub mod NodeLines
