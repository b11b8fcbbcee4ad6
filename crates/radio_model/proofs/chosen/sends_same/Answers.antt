use Rattle.std.proofs.Common.{◌∙◌, sym, eq-eqb}
use Rattle.std.proofs.lemmas.Bool.{eqb-true, both_ways}
use Rattle.std.specs.List.{list_any}
use Rattle.radio_model.specs.Meetings.{repeats, rivals_in}
use Rattle.radio_model.proofs.Crowds.{named_sends, other_sends}
use Rattle.radio_model.proofs.Reaching.{bit_tells}
use Rattle.radio_model.proofs.chosen.sends_same.Goals as goal

pub returns-then-eq : goal.returns-then-eq
returns-then-eq g c =
    let lines = g.M.Links.lines c.args.links.now in
    let nodes = g.M.Links.nodes c.args.links.now in
    let p = c.args.profile.now in
    let x = c.args.x.now in
    let st = c.args.station.now in
    let at = c.args.at.now in
    c.has.ensures
    ∙ bit_tells nodes (λ v. list_any (repeats lines v) (rivals_in p x st)) c.with-asked.result c.brought_from.result.same at.place at.node
    c.brought_from.ensures.same c.requires.at c.with-asked.ensures.set
    ∙ named_sends lines p x st at.node c.args.named (eqb-true st.node c.args.named (sym c.eq.ensures ∙ c.if-eq.true))

pub returns-else-eq : goal.returns-else-eq
returns-else-eq g c =
    let st = c.args.station.now in
    c.if-eq.false
    ∙ sym (other_sends (g.M.Links.lines c.args.links.now) c.args.profile.now c.args.x.now st c.args.at.now.node c.args.named (λ is.
    both_ways c.eq.result c.if-eq.false (c.eq.ensures ∙ eq-eqb st.node c.args.named is)))
