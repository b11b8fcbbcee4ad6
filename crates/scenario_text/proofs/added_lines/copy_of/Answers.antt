use Rattle.std.proofs.Common.{◌≡◌, ◌++◌, List, sym, ◌∙◌, ap, subst}
use Rattle.scenario_text.specs.Canonical.{IsSaid}
use Rattle.scenario_text.specs.declared.script.ScriptLine.{ScriptLine}
use Rattle.scenario_text.proofs.OrderedParts.{said_in_order, in_order_said}
use Rattle.scenario_text.proofs.added_lines.copy_of.Goals as goal

pub with_own_script-requires : goal.with_own_script-requires
with_own_script-requires c =
    let s = c.args.s.now in
    let same : c.copy_lines.new.all.items ≡ s.script =
    c.in_ok-copy_lines.ensures.lines ∙ ap (λ (ls : List ScriptLine). ls ++ c.script.result.now) c.new-script.ensures.items ∙ c.script.ensures.value in
    subst (λ (ls : List ScriptLine). IsSaid (record s { script = ls })) (sym same) (said_in_order s (in_order_said s c.script.ensures.said))
