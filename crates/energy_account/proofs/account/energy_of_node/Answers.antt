use Rattle.std.proofs.Common.{ℕ, reverse, sym, ◌∙◌, ap, subst}
use Rattle.scenario_clocks.specs.StatedClocks.{scenario_clock}
use Rattle.air_log.specs.Lawful.{heard_by}
use Rattle.air_log.specs.TrailsTold.{TrailTold, trail_told}
use Rattle.energy_account.specs.ToldEnergies.{told_energy, SendingsApart, TuningsApart}
use Rattle.energy_account.proofs.ReadOff.{sent_apart, tuned_apart, read_off}
use Rattle.energy_account.proofs.account.energy_of_node.Goals as goal

pub energy_told-requires-clause-sent : goal.energy_told-requires-clause-sent
energy_told-requires-clause-sent g c =
    subst (λ (t : TrailTold). SendingsApart t.sent) (sym c.in_ok-trail.ensures)
    (sent_apart c.args.s.now c.args.node (g.C.DriftClock.readings c.args.clock.now) (heard_by c.args.a.now c.args.node))

pub energy_told-requires-clause-tuned : goal.energy_told-requires-clause-tuned
energy_told-requires-clause-tuned g c =
    subst (λ (t : TrailTold). TuningsApart (reverse t.tuned)) (sym c.in_ok-trail.ensures)
    (tuned_apart c.args.s.now c.args.node (g.C.DriftClock.readings c.args.clock.now) (heard_by c.args.a.now c.args.node))

pub returns : goal.returns
returns g c =
    let s = c.args.s.now in
    let air = c.args.a.now in
    let v = c.args.node in
    c.energy_told.ensures
    ∙ ap told_energy c.in_ok-trail.ensures
    ∙ ap (λ (clock : ℕ → ℕ). told_energy (trail_told s v clock (heard_by air v))) c.requires.clock
    ∙ read_off s (scenario_clock s) air v c.requires.lawful c.requires.known
