use Rattle.std.proofs.Common.{◌≡◌, ℕ, ◌+◌, ◌∙◌, ap, arith}
use Rattle.tick_clock.specs.Clocks.{due}
use Rattle.tick_clock.proofs.Readings.{read_in_range}
use Rattle.tick_clock.proofs.DueTicks.{turn}
use Rattle.tick_clock.proofs.drift_clock.turn_bounds.Goals as goal

pub overflow_add-reading : goal.overflow_add-reading
overflow_add-reading g c = omega (arith, read_in_range _ c.args.end (g.met.C.DriftClock.keeps_drift_law c.args.clock.now) c.requires)

pub due-requires : goal.due-requires
due-requires g c = omega (arith, read_in_range _ c.args.end (g.met.C.DriftClock.keeps_drift_law c.args.clock.now) c.requires)

pub returns-clause-earliest : goal.returns-clause-earliest
returns-clause-earliest g c =
    let own = g.C.DriftClock.readings c.args.clock.now in
    let near = turn own 12288 c.args.end (g.met.C.DriftClock.keeps_drift_law c.args.clock.now) (omega arith) (omega arith) c.requires in
    let same : c.due.result ≡ due own (own c.args.end + 12288) = c.due.ensures ∙ ap (λ (n : ℕ). due own (n + 12288)) c.reading.ensures in
    omega (arith, near, same)

pub returns-clause-latest : goal.returns-clause-latest
returns-clause-latest g c =
    let own = g.C.DriftClock.readings c.args.clock.now in
    let near = turn own 12288 c.args.end (g.met.C.DriftClock.keeps_drift_law c.args.clock.now) (omega arith) (omega arith) c.requires in
    let same : c.due.result ≡ due own (own c.args.end + 12288) = c.due.ensures ∙ ap (λ (n : ℕ). due own (n + 12288)) c.reading.ensures in
    omega (arith, near, same)
