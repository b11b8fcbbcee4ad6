use Rattle.law_bus.proofs.SlotsAreFloods.{slots_are_runs}
use Rattle.law_bus.proofs.slot_run_laws.slots_are_runs.Goals as goal

pub returns : goal.returns
returns c = slots_are_runs
