-- kept for the crates above
pub mod StrictOrders
pub mod DeliveryOrder
pub mod SameSendings
pub mod LoggedEntries
pub mod DeviceActs
pub mod KeptByEvents
pub mod InTurn
pub mod HearingMore
pub mod NextDue
pub mod QuietTicks
pub mod AlarmRuns
pub mod AlarmRows
pub mod AlarmLoop
pub mod SmallPlans
pub mod TrailSendings
pub mod TrailTunings
pub mod SendingsKept
pub mod SendingsApart
pub mod OwnSendings
pub mod RunningSendings
pub mod TunedBefore
pub mod KeptPower
pub mod ComputedTrails
pub mod FirstRound
pub mod ChargedWindows
pub mod EventKinds
pub mod EventPower
pub mod ShownCourses
pub mod AlarmsTaken
pub mod KeptTunings
pub mod DeviceChanges
pub mod FramesOfCourses
pub mod ListCuts
pub mod FirstRoundLog
pub mod ShortRuns
pub mod DropsBelow
pub mod IdleFrames
-- for this crate alone
pub mod SmallCores
mod DeviceEvents
mod DeviceNotified
mod DeviceOrders
mod DeviceScript
mod EndsNoticed
mod FilledPlaces
mod CountedEvents
mod CountedWindows
mod CourseSteps
mod FewWindows
mod FirstRoundHearings
mod HearingsInAir
mod HearingsOfCourses
mod LeastDue
mod LinesOfCourses
mod LogTextExamples
mod OpenedByAlarm
mod TimelyOrders
mod TrailsOfCourses
mod TwoNodeLog
