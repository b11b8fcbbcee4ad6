use Rattle.std.proofs.Common.{◌≡◌, ◌≤◌, List, All, length, map, subst, sym, ◌∙◌, ap, arith}
use Rattle.std.proofs.lemmas.List.{length-map}
use Rattle.lwb_base.specs.declared.limits.TheConstants.{MOST_FRAMES}
use Rattle.bus_terms.specs.Bus.{Cost}
use Rattle.plain_bus.specs.Networks.{Network}
use Rattle.plain_bus.proofs.SlotsMet.{put_back}
use Rattle.bus_model.specs.FrameNodes.{with_round_rank}
use Rattle.bus_model.proofs.frames.begin_rounds.Goals as goal

pub count_scans-requires-clause-nodes : goal.count_scans-requires-clause-nodes
count_scans-requires-clause-nodes c =
    ap length (c.deref.ensures.value ∙ ap (λ (n : Network). n.nodes) c.net.view_is) ∙ c.requires.each
    ∙ sym (ap length (c.deref_mut.ensures.value ∙ ap (λ (n : Network). n.costs) c.net.view_is))

pub count_scans-requires-clause-few : goal.count_scans-requires-clause-few
count_scans-requires-clause-few c =
    subst (λ (l : List Cost). All (λ (x : Cost). x.scanned ≤ MOST_FRAMES) l) (sym (c.deref_mut.ensures.value ∙ ap (λ (n : Network). n.costs) c.net.view_is))
    c.requires.few

pub returns-clause-nodes : goal.returns-clause-nodes
returns-clause-nodes c =
    let olds : c.deref_mut-2.result.now ≡ c.args.net.now.nodes = c.deref_mut-2.ensures.value ∙ ap (λ (n : Network). n.nodes) c.net.view_is in
    let size : length c.net.inside.nodes.items ≡ c.net.inside.nodes.len = ap length (sym c.deref_mut-2.ensures.value) ∙ c.deref_mut-2.ensures.len in
    put_back c.net.inside.nodes.len c.begin_all.new.nodes c.net.inside.nodes.items size
    (ap length c.begin_all.ensures ∙ length-map c.deref_mut-2.result.now with_round_rank ∙ ap length c.deref_mut-2.ensures.value)
    ∙ c.begin_all.ensures ∙ ap (map with_round_rank) olds

pub returns-clause-costs : goal.returns-clause-costs
returns-clause-costs c s ranks states cost nodes costs =
    let olds : c.deref_mut.result.now ≡ c.args.net.now.costs = c.deref_mut.ensures.value ∙ ap (λ (n : Network). n.costs) c.net.view_is in
    let size : length c.net.inside.costs.items ≡ c.net.inside.costs.len = ap length (sym c.deref_mut.ensures.value) ∙ c.deref_mut.ensures.len in
    put_back c.net.inside.costs.len c.count_scans.new.costs c.net.inside.costs.items size
    (omega (arith, c.count_scans.auto.costs, ap length c.deref_mut.ensures.value))
    ∙ c.count_scans.ensures s ranks states cost (c.deref.ensures.value ∙ ap (λ (n : Network). n.nodes) c.net.view_is ∙ nodes) (olds ∙ costs)

pub returns-clause-same : goal.returns-clause-same
returns-clause-same c =
    let size : length c.net.inside.costs.items ≡ c.net.inside.costs.len = ap length (sym c.deref_mut.ensures.value) ∙ c.deref_mut.ensures.len in
    ap length (put_back c.net.inside.costs.len c.count_scans.new.costs c.net.inside.costs.items size
    (omega (arith, c.count_scans.auto.costs, ap length c.deref_mut.ensures.value)))
    ∙ omega (arith, c.count_scans.auto.costs, ap length c.deref_mut.ensures.value, ap (λ (n : Network). length n.costs) c.net.view_is)

pub returns-clause-rest : goal.returns-clause-rest
returns-clause-rest c = (
  ap (λ (n : Network). n.ids) c.net.view_is,
  ap (λ (n : Network). n.deliveries) c.net.view_is,
  ap (λ (n : Network). n.sent) c.net.view_is,
)
