use Rattle.scenario_text.proofs.BootsTold.{none_told}
use Rattle.scenario_text.proofs.boots.Boots.none.Goals as goal

pub returns : goal.returns
returns c = none_told
