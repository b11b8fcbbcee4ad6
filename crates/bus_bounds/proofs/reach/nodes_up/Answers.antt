use Rattle.std.proofs.Common.{◌≡◌, ◌==◌, ◌||◌, ◌++◌, ◌∷◌, [], ℕ, List, Bool, if◌then◌else◌, rules, sym, ◌∙◌, ap}
use Rattle.scenario_text.specs.declared.lines.NodeLine.{NodeLine}
use Rattle.bus_bounds.specs.JoinFindings.{is_up}
use Rattle.bus_bounds.proofs.WalksAlong.{kept_more}
use Rattle.bus_bounds.proofs.reach.nodes_up.Goals as goal

pub loop-line-preserved : goal.loop-line-preserved
loop-line-preserved c =
    let l = c.loop-line in
    let x = c.line-item.result in
    let p : ℕ → Bool = λ v. (v == c.args.host) || is_up c.args.lines.now c.args.frame v in
    let pushed : c.push_if.new.nodes.items ≡ l.up.items ++ (if p x.node then x.node ∷ [] else []) = search rules in
    pushed
    ∙ ap (λ (xs : List ℕ). xs ++ (if p x.node then x.node ∷ [] else [])) l.invariant
    ∙ sym (kept_more p (λ (n : NodeLine). n.node) c.args.nodes.now l.line-index x c.loop-line-test.true c.line-item.is)
