use Rattle.std.proofs.Common.{◌++◌, ◌∷◌, [], ℕ, List, if◌then◌else◌, sym, ◌∙◌, ap}
use Rattle.bus_bounds.specs.JoinRounds.{is_next}
use Rattle.bus_bounds.proofs.WalksAlong.{kept_one_more}
use Rattle.bus_bounds.proofs.reach.one_step.Goals as goal

pub loop-node-preserved : goal.loop-node-preserved
loop-node-preserved c =
    let l = c.loop-node in
    let x = c.node-item.result in
    let p = is_next c.args.trace.now.lines c.args.frame c.args.nodes.now in
    c.in_ok-push_if.ensures
    ∙ ap (λ (b : _). l.next.items ++ (if b then x ∷ [] else [])) c.is_next.ensures
    ∙ ap (λ (xs : List ℕ). xs ++ (if p x then x ∷ [] else [])) l.invariant
    ∙ sym (kept_one_more p c.args.up.now l.node-index x c.loop-node-test.true c.node-item.is)
