-- kept for the crates above
pub mod AllowedLines
pub mod LineFeeds
pub mod LinesRead
pub mod NumbersRead
-- for this crate alone
pub mod Digits
pub mod BlanksFound
pub mod WordsCut
pub mod DividedTexts
