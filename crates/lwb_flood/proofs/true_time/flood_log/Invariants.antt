use Rattle.air_log.specs.ClockLists.{clocks_by}
use Rattle.lwb_flood.proofs.FloodLoop.{IsRunning}
use Rattle.lwb_flood.proofs.FloodMeasure.{remaining}
use Rattle.lwb_flood.proofs.true_time.flood_log.Given as goal

abbrev pub invariant-loop-place : goal.invariant-loop-place
invariant-loop-place g l = IsRunning l.f (clocks_by g.C.DriftClock.readings l.f.nodes l.clocks.items) l.world

abbrev pub decreases-loop-place : goal.decreases-loop-place
decreases-loop-place g l = remaining l.world
