-- kept for the crates above
pub mod OneStation
pub mod Places
pub mod Changes
pub mod Agreement
pub mod Settled
pub mod Tunings
pub mod Members
pub mod Scenes
pub mod OneCall
pub mod NothingBefore
pub mod AfterTuning
pub mod AfterStarting
pub mod AfterEnding
pub mod AtFirst
pub mod ChangedStations
pub mod TunedStations
pub mod OverlapWindows
pub mod SendingOrder
-- for this crate alone
pub mod RivalLists
pub mod PlacedStations
pub mod ChangeAtPlace
pub mod Crowds
pub mod Marked
pub mod Alike
pub mod Early
pub mod Close
pub mod Gathered
pub mod Those
pub mod Ready
pub mod Origins
pub mod BegunOrigins
pub mod RestOfPlaces
pub mod HeardInTurn
pub mod RecentPlaces
pub mod NextToEnding
pub mod EndedSendings
pub mod Reaching
pub mod SendingAtPlace
pub mod EndingPlaces
pub mod Retuned
pub mod RivalFacts
pub mod Heard
pub mod HearersInOrder
pub mod SameHistory
pub mod Named
pub mod WorkedHearings
-- for this crate alone, and the crates that search a log
pub mod AreReached
mod Received
mod ReceiverMasks
