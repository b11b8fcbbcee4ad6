-- kept for the crates above
pub mod KeptBoots
pub mod NamedDeliveries
pub mod WindowKinds
pub mod KeptRequests
-- for this crate alone
pub mod AcceptedKinds
pub mod KeptWindows
pub mod PassedWindows
pub mod Timed
pub mod OffNodes
pub mod OpenedWindows
pub mod Followed
pub mod JoinedWindows
mod NamedHosts
