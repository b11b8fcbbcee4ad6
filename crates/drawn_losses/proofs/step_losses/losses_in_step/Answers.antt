use Rattle.std.proofs.Common.{◌++◌, List, ap, append-nil, sym, ◌∙◌}
use Rattle.std.proofs.lemmas.Bool.{eqb-true}
use Rattle.link_trace.specs.declared.lines.LoseLine.{LoseLine}
use Rattle.drawn_losses.proofs.LossesFound.{no_senders, nobody_otherwise}
use Rattle.drawn_losses.proofs.step_losses.losses_in_step.Goals as goal

pub returns-then-is_empty : goal.returns-then-is_empty
returns-then-is_empty g c x flood known at =
    let fl = c.args.flood.now in
    sym (append-nil c.args.lines.now.items)
    ∙ ap (λ (l : List LoseLine). c.args.lines.now.items ++ l)
    (sym (no_senders (g.B.Links.lines c.args.base.now) fl.frame fl.slot (g.M.Links.nodes c.args.links.now) x c.args.step c.args.now.now.senders at.senders
    (eqb-true c.args.now.now.senders 0 (sym c.is_empty.ensures ∙ c.if-is_empty.true))))

pub returns-then-is_empty-2 : goal.returns-then-is_empty-2
returns-then-is_empty-2 g c x flood known at =
    let fl = c.args.flood.now in
    sym (append-nil c.args.lines.now.items)
    ∙ ap (λ (l : List LoseLine). c.args.lines.now.items ++ l)
    (sym (nobody_otherwise (g.B.Links.lines c.args.base.now) fl.frame fl.slot (g.M.Links.nodes c.args.links.now) x c.args.step c.changed_nodes-changed.result
    (c.changed_nodes-changed.ensures x flood known at) (eqb-true c.changed_nodes-changed.result 0 (sym c.is_empty-2.ensures ∙ c.if-is_empty-2.true))))
