mod LogTextExamples
mod CheckedTextExamples
mod CheckedTexts
mod WorkedVerdicts
pub mod OneVerdict
mod InOrder
mod LawfulVerdicts
mod OwnTrails
mod NodeLogs
mod FoundClocks
mod IdsInOrder
mod SameEntries
mod TunedTimes
mod Given
mod Gathered
mod Marked
mod DueOnes
mod RightEntries
mod LinksFound
mod SameStart
mod MissingOnes
pub mod ReceiverMasks
mod EntriesAdded
mod Extended
