use Rattle.schedule_codec.proofs.Sums.{Sum}
use Rattle.schedule_codec.proofs.owner_bytes.summed.Given as goal

abbrev pub invariant-loop-step : goal.invariant-loop-step
invariant-loop-step l = Sum l.first l.steps l.codes.items l.code l.step-index
