pub mod Streams
pub mod TextsDue
pub mod Answers
pub mod ProcessWords
pub mod ProcessRuns
