use Rattle.std.proofs.Common.{◌≤◌, ◌∙◌, ap, arith, length}
use Rattle.link_trace.specs.Passes.{Lines}
use Rattle.scenario_text.specs.PartsInOrder.{script_lines}
use Rattle.scenario_text.specs.declared.limits.TheConstants.{BUS_SCRIPT_LINES}
use Rattle.scenario_text.proofs.OrderedParts.{in_order_said}
use Rattle.added_losses.proofs.losses.line_count.Goals as goal

pub returns-clause-count : goal.returns-clause-count
returns-clause-count c =
    let rates = ap length c.rates.ensures in
    let script = ap length c.script.ensures.value in
    let losses = ap length (c.losses.ensures.value ∙ ap (λ (t : Lines). t.losses) c.trace-trace.ensures.value) in
    let cuts = ap length (c.cuts.ensures.value ∙ ap (λ (t : Lines). t.cuts) c.trace-trace.ensures.value) in
    let captures = ap length (c.captures-2.ensures.value ∙ ap (λ (t : Lines). t.captures) c.trace-trace.ensures.value) in
    omega (arith, rates, script, losses, cuts, captures)

pub returns-clause-few : goal.returns-clause-few
returns-clause-few c =
    let few : script_lines c.args.s.now ≤ BUS_SCRIPT_LINES = (in_order_said c.args.s.now c.script.ensures.said).few_lines in
    let rates = ap length c.rates.ensures in
    let script = ap length c.script.ensures.value in
    let losses = ap length (c.losses.ensures.value ∙ ap (λ (t : Lines). t.losses) c.trace-trace.ensures.value) in
    let cuts = ap length (c.cuts.ensures.value ∙ ap (λ (t : Lines). t.cuts) c.trace-trace.ensures.value) in
    let captures = ap length (c.captures-2.ensures.value ∙ ap (λ (t : Lines). t.captures) c.trace-trace.ensures.value) in
    omega (arith, few, rates, script, losses, cuts, captures)
