pub mod Accounts
pub mod Apart
pub mod ToldEnergies
pub mod Times
pub mod WindowRows
-- what the clauses on clocks cite
pub use Rattle.scenario_clocks.specs.StatedClocks
