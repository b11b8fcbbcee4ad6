use Rattle.std.proofs.Common.{ℕ, List, [], ◌++◌, Bool, Option, Some, flat_map, if◌then◌else◌, sym, ◌∙◌, ap}
use Rattle.bus_bounds.specs.JoinFindings.{of_node}
use Rattle.bus_bounds.specs.PowerLines.{boots_in}
use Rattle.bus_bounds.specs.declared.finding.Finding.{Finding}
use Rattle.bus_bounds.proofs.JoinPieces.{pieces_next}
use Rattle.bus_bounds.proofs.joining.after_each.Goals as goal

pub loop-frame-preserved : goal.loop-frame-preserved
loop-frame-preserved c =
    let l = c.loop-frame in
    let p : ℕ → Bool = boots_in c.args.lines.now c.args.host in
    let h : Option ℕ → List Finding = λ b. flat_map (of_node c.args.scenario.now c.args.ratios.now.lines c.args.host b) c.args.nodes.now in
    c.in_ok-push_all.ensures
    ∙ ap (λ (ys : List Finding). l.found.items ++ ys) c.in_ok-more.ensures
    ∙ ap (λ (xs : List Finding). xs ++ (if p l.frame then h (Some l.frame) else [])) l.invariant
    ∙ sym (pieces_next p h l.frame)
