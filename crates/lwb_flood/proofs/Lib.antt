-- kept for the crates above
pub mod NodeClocks
pub mod RuleInRun
pub mod Slots
pub mod WholeFlood
pub mod LogEntries
pub mod SendingTimes
-- for this crate alone
mod ActsTold
mod ClosingLoop
mod EndOfSending
mod EventOrder
mod EventsInLog
mod SendingBegun
mod FloodBegun
mod FloodClosing
mod SendingOver
mod FloodEnded
mod FloodFirst
mod NodeGone
mod FloodGone
mod HearingLogged
mod HearingKept
mod FloodHearer
mod FloodHeard
mod FloodHearers
mod FloodLogRun
mod FloodClocks
mod FloodLoop
mod FloodMeasure
mod FloodOpening
mod FloodOver
mod FloodReplies
mod FloodShapes
mod FloodSoFar
mod FloodSteps
mod LogOutcome
mod LogReading
mod MemberPlaces
mod NextMember
mod StepOccasions
mod NextSteps
mod NodesAndStations
mod SendingCauses
mod SendingCounts
mod Stations
mod StepsOnAir
mod StepHearings
mod FittingPackets
mod StepTimes
mod TunedWindows
mod TwoNodeRun
mod WorldLists
