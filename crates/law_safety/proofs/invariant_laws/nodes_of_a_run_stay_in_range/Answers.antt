use Rattle.law_safety.proofs.WellSteps.{well_at_hearings, well_at_alarms, well_in_phases}
use Rattle.law_safety.proofs.invariant_laws.nodes_of_a_run_stay_in_range.Goals as goal

pub returns : goal.returns
returns c = record { hearings = well_at_hearings; alarms = well_at_alarms; phases = well_in_phases }
