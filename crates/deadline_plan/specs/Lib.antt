pub mod Jobs
pub mod Admission
pub mod Sorting
pub mod Grants
pub mod Load
pub mod Placings
pub mod DeadlineText
