use Rattle.std.proofs.Common.{sym, subst}
use Rattle.scenario_text.specs.ScenarioParts.{ScenarioParts}
use Rattle.host_return.proofs.Followed.{nothing_yet}
use Rattle.host_return.proofs.follow.Course.first.Goals as goal

pub returns-clause-followed : goal.returns-clause-followed
returns-clause-followed g c =
    let s = c.args.read.now in
    let k = c.in_ok-scenario in
    nothing_yet s (record { scenario = k.scenario; air = c.in_ok-air.air; returns = c.new.result; idle = c.in_ok-idle.idle }) k.ensures.copy c.new.ensures.items
    c.in_ok-air.ensures.lawful k.ensures.said c.in_ok-idle.ensures

pub returns-clause-kept : goal.returns-clause-kept
returns-clause-kept g c =
    subst (λ (t : ScenarioParts). g.R.Runner.kept c.run.new.self t c.in_ok-air.air) (sym c.in_ok-scenario.ensures.copy) c.in_ok-air.ensures.kept
