use Rattle.std.proofs.Common.{arith}
use Rattle.tick_clock.proofs.Readings.{read_in_range}
use Rattle.tick_clock.proofs.at_tick.AtLocalClock.now.Goals as goal

pub returns-clause-range : goal.returns-clause-range
returns-clause-range g c = omega (
  arith,
  c.reading.ensures,
  read_in_range _ c.self.inside.t (g.met.C.DriftClock.keeps_drift_law c.self.inside.clock.now) c.self.invariant,
)
