-- kept for the crates above
pub mod LifeSteps
pub mod DriftingClocks
pub mod OnePacketZeros
pub mod ObeyedOrders
pub mod RowsOfDevices
pub mod RowsLeave
pub mod SentInTrails
pub mod TunedInTrails
pub mod HeardInTrails
pub mod HostRanks
pub mod LinesOfTick
pub mod WalkOfRun
pub mod UnstoppedTimes
pub mod HeardReferences
pub mod SlotBounds
pub mod OtherCounters
pub mod SaidPackets
pub mod ProfilePackets
pub mod CoresInRange
pub mod SaidInRange
pub mod WindowsInRange
pub mod DevicesInRange
pub mod TrailsInRange
pub mod RelayedMessages
pub mod LogsInRange
pub mod LifeLaws
pub mod HeedfulLogs
pub mod MemberSteps
pub mod OnePacketTrails
pub mod UnmovedDevices
pub mod SafeTests
-- for this crate alone
mod QuietPeriods
mod FloodsInRange
mod LifeExamples
mod SafeFirstRound
mod BrokenClauses
mod UnsafeSchedules
mod UnsafeSpeech
mod TurnedLogs
mod QuietTests
mod TrailSteps
mod HostSteps
mod LateOpening
mod DuePlaces
mod OnePacketHearings
mod OnePacketLog
mod OnePacketSafe
mod ChannelsHeard
mod KnownDevices
mod StepsOfTick
mod AwakeNodes
mod PacketLengths
mod WrittenAgain
mod StreamsInRange
mod TablesInRange
mod PlansInRange
mod SpokenInRange
mod ClosingsInRange
mod RowsInRange
mod BootsSoFar
mod RangeExamples
