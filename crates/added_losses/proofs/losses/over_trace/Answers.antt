use Rattle.std.proofs.Common.{◌∙◌, List, ap, subst, sym}
use Rattle.link_trace.specs.Passes.{Lines}
use Rattle.link_trace.specs.Sealed.{Traced}
use Rattle.scenario_text.specs.Canonical.{IsSaid}
use Rattle.scenario_text.specs.declared.script.ScriptLine.{ScriptLine}
use Rattle.scenario_text.proofs.LinesAdded.{same_parts}
use Rattle.scenario_text.specs.OverLines.{over}
use Rattle.added_losses.proofs.losses.over_trace.Goals as goal

pub of_parts-requires-clause-said : goal.of_parts-requires-clause-said
of_parts-requires-clause-said c =
    let s = c.args.s.now in
    let t : Lines = c.args.trace.lines in
    subst IsSaid (sym (
    same_parts (over s t) c.profile.result c.frames.result c.sends.result c.in_ok-from_slice.field-0.items c.in_ok-from_slice-2.field-0.items
    c.in_ok-from_slice-3.field-0.items _ c.in_ok-copied_script.field-0.items c.profile.ensures.value c.frames.ensures.value c.sends.ensures
    (c.in_ok-from_slice.ensures.items ∙ c.nodes.ensures.value) (c.in_ok-from_slice-2.ensures.items ∙ c.rates.ensures)
    (c.in_ok-from_slice-3.ensures.items ∙ c.hosts.ensures.value) (ap (λ (u : Traced). u.lines) c.trace.view_is)
    ∙ ap (λ (ls : List ScriptLine). record (over s t) { script = ls }) (c.in_ok-copied_script.ensures ∙ c.script.ensures.value)))
    c.requires.said

pub returns : goal.returns
returns c =
    let s = c.args.s.now in
    let t : Lines = c.args.trace.lines in
    c.of_parts.ensures
    ∙ same_parts (over s t) c.profile.result c.frames.result c.sends.result c.in_ok-from_slice.field-0.items c.in_ok-from_slice-2.field-0.items
    c.in_ok-from_slice-3.field-0.items _ c.in_ok-copied_script.field-0.items c.profile.ensures.value c.frames.ensures.value c.sends.ensures
    (c.in_ok-from_slice.ensures.items ∙ c.nodes.ensures.value) (c.in_ok-from_slice-2.ensures.items ∙ c.rates.ensures)
    (c.in_ok-from_slice-3.ensures.items ∙ c.hosts.ensures.value) (ap (λ (u : Traced). u.lines) c.trace.view_is)
    ∙ ap (λ (ls : List ScriptLine). record (over s t) { script = ls }) (c.in_ok-copied_script.ensures ∙ c.script.ensures.value)
