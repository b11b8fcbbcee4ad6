use Rattle.std.proofs.Common.{◌≡◌, ◌+◌, ◌≤◌, ◌∙◌, length, ap, subst, sym, arith}
use Rattle.link_trace.specs.Passes.{Lines}
use Rattle.scenario_text.specs.Canonical.{IsSaid}
use Rattle.scenario_text.specs.PartsInOrder.{IsInOrder, script_lines}
use Rattle.scenario_text.proofs.OrderedParts.{said_in_order, in_order_said}
use Rattle.scenario_text.specs.OverLines.{over}
use Rattle.scenario_text.specs.ScenarioParts.{ScenarioParts}
use Rattle.added_losses.specs.LossesAdded.{IsWithLosses}
use Rattle.lwb_base.specs.declared.limits.TheConstants.{MOST_SCRIPT_LINES}
use Rattle.added_losses.proofs.StillInOrder.{with_more, is_with_more, count_with_more, few_with_more, still_in_order}
use Rattle.added_losses.proofs.losses.with_losses.Goals as goal

pub over_trace-requires-clause-said : goal.over_trace-requires-clause-said
over_trace-requires-clause-said c =
    let s = c.args.s.now in
    let more = c.args.lines.now in
    let is : IsInOrder s = in_order_said s c.line_count.ensures.said in
    let room : script_lines s + length more ≤ MOST_SCRIPT_LINES =
    omega (arith, c.if-line_count-lines-gt-MOST_SCRIPT_LINES.false, c.line_count.ensures.count) in
    subst (λ (t : Lines). IsSaid (over s t)) (sym c.in_ok-trace.ensures.lines)
    (said_in_order (with_more s more) (still_in_order s more is c.requires room))

pub returns-clause-some : goal.returns-clause-some
returns-clause-some c =
    let s = c.args.s.now in
    let more = c.args.lines.now in
    let same : c.in_ok-over_trace.field-0 ≡ with_more s more = c.in_ok-over_trace.ensures ∙ ap (over s) c.in_ok-trace.ensures.lines in
    let room : script_lines s + length more ≤ MOST_SCRIPT_LINES =
    omega (arith, c.if-line_count-lines-gt-MOST_SCRIPT_LINES.false, c.line_count.ensures.count) in
    let few : script_lines (with_more s more) ≤ MOST_SCRIPT_LINES = omega (arith, few_with_more s more, room) in
    (subst (IsWithLosses s more) (sym same) (is_with_more s more), room, subst (λ (t : ScenarioParts). script_lines t ≤ MOST_SCRIPT_LINES) (sym same) few)

pub returns-clause-count : goal.returns-clause-count
returns-clause-count c =
    λ are.
    let s = c.args.s.now in
    let more = c.args.lines.now in
    let same : c.in_ok-over_trace.field-0 ≡ with_more s more = c.in_ok-over_trace.ensures ∙ ap (over s) c.in_ok-trace.ensures.lines in
    ap script_lines same ∙ count_with_more s more are
