pub mod FloodRun
pub mod FloodBySteps
pub mod Windows
pub mod TwoNodes
pub mod FloodLog
pub mod LogReading
pub mod RunOnAir
pub mod FloodWorlds
-- what the clauses of the floods cite
pub use Rattle.air_log.specs.FloodLaw
pub use Rattle.air_log.specs.ClockLists
pub use Rattle.bus_terms.specs.FloodOfText
pub use Rattle.scenario_clocks.specs.StatedClocks
