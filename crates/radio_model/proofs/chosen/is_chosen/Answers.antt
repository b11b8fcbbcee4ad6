use Rattle.std.proofs.Common.{◌≡◌, ◌∙◌, Contains, sym, subst, true}
use Rattle.std.specs.List.{list_any}
use Rattle.link_trace.specs.Passes.{captured}
use Rattle.radio_model.specs.Ages.{IsAged}
use Rattle.radio_model.specs.Meetings.{comes_from, rivals_in, rivals_to}
use Rattle.radio_model.specs.declared.station.Station.{Station}
use Rattle.radio_model.proofs.Heard.{chosen_from}
use Rattle.lwb_base.proofs.Elements.{any_of, some_of, in_flat}
use Rattle.radio_model.proofs.chosen.is_chosen.Goals as goal

pub sends_same-requires-clause-by_end : goal.sends_same-requires-clause-by_end
sends_same-requires-clause-by_end g c =
    (subst (λ (st : Station). IsAged c.args.x.now.end st.ended.items) (sym c.station-item.is)
    (c.requires.aged c.loop-station.station-index c.station-item.result c.loop-station-test.true)).by_end

pub returns-then-sends_same : goal.returns-then-sends_same
returns-then-sends_same g c =
    let p = c.args.profile.now in
    let x = c.args.x.now in
    let sts = c.args.stations.now in
    let st = c.station-item.result in
    let test = comes_from (g.M.Links.lines c.args.links.now) c.args.at.now.node c.in-Some.named in
    let there : Contains sts st = (c.loop-station.station-index, c.loop-station-test.true, sym c.station-item.is) in
    let r = some_of test (rivals_in p x st) (sym c.sends_same.ensures ∙ c.if-sends_same.true) in
    let any : list_any test (rivals_to p x sts) ≡ true = any_of test (rivals_to p x sts) r.0 (in_flat (rivals_in p x) sts st r.0 there r.1) r.2 in
    sym (chosen_from (g.M.Links.lines c.args.links.now) c.args.at.now.node (rivals_to p x sts)
    (captured (g.M.Links.lines c.args.links.now) c.args.key.frame c.args.key.slot c.args.key.counter c.args.at.now.node) c.in-Some.named
    (sym c.captured.ensures ∙ c.in-Some.is) any)
