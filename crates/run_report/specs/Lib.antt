pub mod RunReport
pub mod RunsTold
pub mod RunsLeft
