-- kept for the crates above
pub mod LosslessSlots
pub mod AcceptedSchedules
pub mod GrantedSlots
pub mod LoneRequests
pub mod FirstRounds
pub mod DeliveredData
pub mod OffNodes
pub mod ComputedCores
pub mod SharedSlots
-- for this crate alone
mod Words
mod SoleVoices
mod AcknowledgedRequests
mod TiedNodes
mod Collisions
mod WorkedReach
mod MetPremises
mod MetServices
mod MetContenders
mod WorkedSchedules
mod WorkedRequests
mod WorkedGrants
mod WorkedContenders
