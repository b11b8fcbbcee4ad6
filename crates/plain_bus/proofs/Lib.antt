-- kept for the crates above
pub mod HeardByMasks
pub mod ListsInPlace
pub mod MembersOfSlots
pub mod SlotsMet
pub mod SoundOver
pub mod SteppedByMasks
pub mod TextFloods
-- for this crate alone
pub mod FloodsRun
pub mod StepsCounted
pub mod Picks
pub mod PlacesSeen
pub mod OffersRead
pub mod ReachedNodes
pub mod HeardAlone
pub mod SaidBehind
pub mod ClosedBehind
pub mod SlotsClosed
pub mod SlotsRun
pub mod SendersKept
pub mod FoundPlaces
pub mod ReadLengths
pub mod WindowTimes
pub mod StepsAdded
pub mod OriginsKept
pub mod SlotsCharged
pub mod RoundsLed
