-- kept for the crates above
pub mod RunFacts
pub mod FloodTimes
pub mod InvariantHolds
pub mod ReadPackets
pub mod AwaitedSlots
pub mod FrameStarts
pub mod HeardNow
pub mod HeardPlaces
pub mod HeardRelays
pub mod HeardSchedules
pub mod Induction
pub mod NextFrames
pub mod OpenWindows
pub mod OpenedNodes
pub mod OpeningRoles
pub mod WellSteps
pub mod SafeRuns
pub mod RunSendings
pub mod SentPlans
pub mod FloodPackets
pub mod SafeSteps
pub mod ContenderStarts
pub mod SlotFloods
-- for this crate alone
mod OpenedDevices
mod OpenedPlans
mod OpenedSpeech
mod OpenedOrders
mod OpenedLives
mod RowOpening
mod AcceptedSchedules
mod ClosedWindows
mod ClosedNodes
mod ClosedRounds
mod SentOpenings
mod KeptRounds
mod TakenSchedules
mod RowClosing
mod KeptWindows
mod IgnoredHearing
mod RowHearing
mod ScheduleReferences
mod JoinedWindow
mod RowJoining
mod TunedRadios
mod RestagedNodes
mod EndedSendings
mod RowsOfSent
mod EndedFrames
mod RowFrameAlarm
mod StartedSendings
mod RowsOfStart
mod KeptClauses
mod KeptPlans
mod KeptDevices
mod RowsOfScript
mod RowBoot
mod AlarmsInFrames
mod RowsOnwards
mod DistinctSendings
mod SafeFrames
mod SafePackets
mod SafeInitiators
mod SafeSilence
mod AgreeingNodes
mod WorkedOpenings
