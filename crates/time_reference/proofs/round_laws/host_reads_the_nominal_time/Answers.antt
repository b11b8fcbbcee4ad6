use Rattle.time_reference.proofs.Rounds.{start}
use Rattle.time_reference.proofs.round_laws.host_reads_the_nominal_time.Goals as goal

pub returns : goal.returns
returns c = λ p b fits host c j clock begun within slot. let w = start p b fits host c j clock begun within slot in (w.at_least, w.reads.below)
