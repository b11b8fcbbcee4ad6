pub mod RoundCosts
pub mod FrameNodes
pub mod FrameFloods
pub mod DroppedPuts
pub mod RunningBuses
pub mod BusRuns
