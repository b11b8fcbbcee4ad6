use Rattle.std.proofs.Common.{◌≡◌, take}
use Rattle.bus_terms.specs.FloodOfText.{ids}
use Rattle.lwb_flood.specs.FloodLog.{accepting}
use Rattle.lwb_flood.specs.LogReading.{step_of}
use Rattle.lwb_flood.proofs.flood_outcome.acceptances.Given as goal

abbrev pub invariant-loop-line : goal.invariant-loop-line
invariant-loop-line l = l.accepts.items ≡ accepting (step_of l.f.start l.firsts) (ids (take l.line-index l.f.nodes))
