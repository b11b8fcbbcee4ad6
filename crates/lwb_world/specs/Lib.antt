pub mod Runs
pub mod Worlds
-- what the clauses of the floods cite
pub use Rattle.air_log.specs.FloodLaw
pub use Rattle.air_log.specs.ClockLists
pub use Rattle.bus_terms.specs.FloodOfText
