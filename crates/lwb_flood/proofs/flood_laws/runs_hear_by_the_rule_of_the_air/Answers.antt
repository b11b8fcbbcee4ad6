use Rattle.lwb_flood.proofs.RuleInRun.{rule_in_run}
use Rattle.lwb_flood.proofs.flood_laws.runs_hear_by_the_rule_of_the_air.Goals as goal

pub returns : goal.returns
returns c = rule_in_run
