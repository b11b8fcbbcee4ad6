pub mod LawfulRuns
pub mod CoreLaws
pub mod FrameCourses
pub mod SlotLaws
pub mod SlotSteps
pub mod SlotRuns
pub mod RunLaws
