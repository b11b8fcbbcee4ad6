use Rattle.std.proofs.Common.{◌≡◌, length, map, sym, ◌∙◌, ap}
use Rattle.std.proofs.lemmas.List.{length-map}
use Rattle.plain_bus.specs.Networks.{Network}
use Rattle.plain_bus.proofs.SlotsMet.{put_back}
use Rattle.bus_model.specs.FrameNodes.{ended_at}
use Rattle.bus_model.proofs.frames.end_frame.Goals as goal

pub returns-clause-nodes : goal.returns-clause-nodes
returns-clause-nodes c =
    let size : length c.net.inside.nodes.items ≡ c.net.inside.nodes.len = ap length (sym c.deref_mut.ensures.value) ∙ c.deref_mut.ensures.len in
    put_back c.net.inside.nodes.len c.end_all.new.nodes c.net.inside.nodes.items size
    (ap length c.end_all.ensures ∙ length-map c.deref_mut.result.now (ended_at c.args.frame) ∙ ap length c.deref_mut.ensures.value)
    ∙ c.end_all.ensures ∙ ap (map (ended_at c.args.frame)) (c.deref_mut.ensures.value ∙ ap (λ (n : Network). n.nodes) c.net.view_is)

pub returns-clause-rest : goal.returns-clause-rest
returns-clause-rest c = (
  ap (λ (n : Network). n.ids) c.net.view_is,
  ap (λ (n : Network). n.costs) c.net.view_is,
  ap (λ (n : Network). n.deliveries) c.net.view_is,
  ap (λ (n : Network). n.floods) c.net.view_is,
  ap (λ (n : Network). n.sent) c.net.view_is,
)
