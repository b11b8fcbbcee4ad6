-- kept for the crates above
pub mod WindowWalk
pub mod WindowParts
pub mod TimedWindows
pub mod WindowFacts
pub mod ScannedHearings
pub mod HeardThroughout
pub mod TunedByDevices
pub mod CountedEnds
pub mod Courses
pub mod FramePlaces
pub mod Strangers
pub mod LinkedWindows
pub mod CourseWalk
-- for this crate alone
mod PlacesWithout
mod RowsOfWindows
mod ClosedByFrame
mod AcceptedRanks
mod WindowRadios
mod OpenedByRows
mod OwnSchedules
mod WindowFloods
mod WindowHistory
mod SlotTimes
mod OneWindow
mod ChainedWindows
mod ChainWalk
mod WindowsSince
mod DistinctHearings
mod DistinctHappenings
mod GrownWindows
mod SendingWalk
mod ListEnds
mod KeptCalls
mod AnsweredCalls
mod CallsInWindows
mod KnownThroughout
mod UnchangedNodes
mod FirstWindows
mod ScannerWalk
mod SlotHearings
mod SlotParts
mod SlotFloods
mod WindowEvents
mod EventOccasions
mod WorkedWindows
mod OwnRanks
mod CourseSteps
mod FrameEnds
mod FoundWindows
mod WorkedCourses
mod TuningTimes
mod TimesInLogs
mod SendingsEnded
mod FewSendings
mod WindowLengths
mod WindowsNearCharge
mod AllWindows
mod WorkedCharges
