-- kept for the crates above
pub mod Options
pub mod OneInitiator
pub mod FirstHearings
pub mod HeardOrigins
pub mod LeastPaths
pub mod SendingCounts
pub mod ReceivedByPaths
pub mod ReceivedInRounds
pub mod DeliveredSteps
pub mod OtherRanks
pub mod KeptRanks
pub mod KeptInRounds
pub mod NumbersKept
pub mod DropsBelow
pub mod ListsInTurn
pub mod OrderedDeliveries
pub mod SamePackets
pub mod KeptFields
pub mod PowerKept
pub mod WorkedBuses
pub mod ReachByDistance
pub mod SaidByParts
pub mod HostsOfRanks
pub mod HostedRounds
pub mod ContentionSlots
pub mod KeptNone
pub mod KeptByHosts
pub mod RoomInSlots
pub mod PlansOfRounds
-- for this crate alone
mod WorkedFloods
mod WorkedFates
mod SameRounds
mod AnyRankOrder
pub mod NumberedStreams
pub mod NumbersSaid
