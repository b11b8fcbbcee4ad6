use Rattle.law_terms.proofs.SameDrops.{script_same}
use Rattle.law_terms.proofs.ScriptedCores.{drop_same}
use Rattle.law_terms.proofs.core_laws.script_lines_do_the_same.Goals as goal

pub returns : goal.returns
returns c = record { script = script_same; losses = drop_same }
