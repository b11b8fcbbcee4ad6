use Rattle.std.proofs.Common.{◌≡◌, ◌+◌, ◌∷◌, [], ℕ, List, filter, rules, sym, subst}
use Rattle.bus_bounds.specs.JoinRounds.{is_next}
use Rattle.bus_bounds.proofs.ReachSteps.{AreReached, starts, steps}
use Rattle.bus_bounds.proofs.reach.reached.Goals as goal

pub loop-init : goal.loop-init
loop-init c =
    let s = c.args.scenario.now in
    let pushed : c.push.new.self.items ≡ c.args.host ∷ [] = search rules in
    subst (λ (vs : List ℕ). AreReached s c.args.host c.args.up.now vs 0) (sym pushed) (starts s c.args.host c.args.up.now c.requires.up)

pub loop-preserved : goal.loop-preserved
loop-preserved c =
    let s = c.args.scenario.now in
    let l = c.loop in
    let next : c.in_ok-nodes.nodes.items ≡ filter (is_next s.trace c.args.frame l.nodes.items) c.args.up.now = search rules in
    subst (λ (vs : List ℕ). AreReached s c.args.host c.args.up.now vs (l.counter + 1)) (sym next)
    (steps s c.args.host c.args.frame c.args.up.now l.nodes.items l.counter c.requires.lossless l.invariant)
