pub mod Words
mod ToldAnswers
pub mod CheckedLogs
pub mod ReportLines
pub mod ProbeLines
pub mod ReturnedRuns
pub mod ReturnTexts
pub mod StreamsDecided
pub mod OwnersDiffer
