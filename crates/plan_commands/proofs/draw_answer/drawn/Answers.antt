use Rattle.std.proofs.Common.{List, IfOk, String, string_bytes, sym, ◌∙◌, ap, subst}
use Rattle.std.specs.declared.alloc.Global.{Global}
use Rattle.text_readers.specs.Faults.{RefusesBy}
use Rattle.link_trace.specs.declared.lines.LoseLine.{LoseLine}
use Rattle.added_losses.specs.LossesAdded.{AreInRange, SaysWithLosses, text_fault}
use Rattle.plan_commands.specs.DrawnTexts.{IsDrawnText}
use Rattle.plan_commands.proofs.DrawnLosses.{answered, found_lines, is_drawn_text, lines_fit}
use Rattle.plan_commands.proofs.draw_answer.drawn.Goals as goal

pub drawn_text-requires : goal.drawn_text-requires
drawn_text-requires c =
    let s = c.args.scenario.now in
    let ratios = c.args.ratios.now.lines in
    let found = c.deref.ensures.value ∙ found_lines s ratios c.args.seed c.new-links.result c.trace.result.now c.frames.result c.in_ok-losses.losses.items
    c.new-links.ensures c.trace.ensures.value c.frames.ensures.value c.in_ok-losses.ensures in
    subst (AreInRange s) (sym found) (lines_fit s ratios c.args.seed c.frames.ensures.said)

pub returns-clause-text : goal.returns-clause-text
returns-clause-text c =
    let s = c.args.scenario.now in
    let ratios = c.args.ratios.now.lines in
    let found = c.deref.ensures.value ∙ found_lines s ratios c.args.seed c.new-links.result c.trace.result.now c.frames.result c.in_ok-losses.losses.items
    c.new-links.ensures c.trace.ensures.value c.frames.ensures.value c.in_ok-losses.ensures in
    answered (λ (t : String Global). SaysWithLosses s c.deref.result.now (string_bytes t))
    (λ (t : String Global). IsDrawnText s ratios c.args.seed (string_bytes t))
    (text_fault s c.deref.result.now)
    (λ t is fits. is_drawn_text s ratios c.args.seed c.frames.ensures.said (string_bytes t)
    (subst (λ (ls : List LoseLine). SaysWithLosses s ls (string_bytes t)) found is) (ap (text_fault s) (sym found) ∙ fits))
    c.drawn_text.result c.drawn_text.ensures.text c.drawn_text.ensures.fault

pub returns-clause-fault : goal.returns-clause-fault
returns-clause-fault c =
    let s = c.args.scenario.now in
    let ratios = c.args.ratios.now.lines in
    let found = c.deref.ensures.value ∙ found_lines s ratios c.args.seed c.new-links.result c.trace.result.now c.frames.result c.in_ok-losses.losses.items
    c.new-links.ensures c.trace.ensures.value c.frames.ensures.value c.in_ok-losses.ensures in
    subst (λ (ls : List LoseLine). IfOk c.drawn_text.result (λ r. RefusesBy r (text_fault s ls))) found c.drawn_text.ensures.fault
