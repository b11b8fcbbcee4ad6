use Rattle.std.proofs.Common.{◌≡◌, ℕ, ◌∙◌, sym, ap, subst, List, None, option_map, rules}
use Rattle.std.specs.declared.option.Option.{Option}
use Rattle.lwb_base.specs.declared.order.Order.{Order}
use Rattle.bus_rules.specs.declared.delivery.Delivery.{Delivery}
use Rattle.bus_rules.specs.declared.part.Part.{Part}
use Rattle.bus_rules.specs.Plans.{last_slot}
use Rattle.bus_rules.specs.Tuning.{rank_of}
use Rattle.bus_rules.specs.Slots.{opened_slot, part_of}
use Rattle.lwb_member.specs.Members.{Member}
use Rattle.lwb_member.specs.Places.{kind_for}
use Rattle.lwb_member.specs.Said.{bytes_in_slot}
use Rattle.node_core.specs.declared.stage.Stage.{Stage}
use Rattle.node_core.specs.declared.stage.Stage.TheVariants.{AwaitSlot, InWindow}
use Rattle.node_core.specs.Standing.{HostsIn, IsInOwnRound, IsInside, KeepsFew}
use Rattle.node_core.specs.WindowOpening.{flood_with}
use Rattle.node_core.specs.Nodes.{Node, NodeState, starts_at, closes_at}
use Rattle.node_core.specs.Rows.{window_opens}
use Rattle.lwb_base.specs.Orders.{Gives}
use Rattle.node_core.proofs.KeptRequests.{opens_inside, opens_keeps}
use Rattle.node_core.proofs.OpenedWindows.{orders_are, opened_stage, stage_is}
use Rattle.node_core.proofs.node.Node.open_own.Goals as goal

pub returns-clause-orders : goal.returns-clause-orders
returns-clause-orders g c =
    let i = c.self.inside in
    let m = i.member in
    let slot = c.args.slot in
    let p = m.setup.profile in
    let part_is = c.requires.part ∙ ap (λ (n : NodeState). part_of n.node.core.plan slot) (sym c.self.view_is) in
    let said = c.speak-packet.ensures.packet
    ∙ ap (λ (p : Part). option_map (bytes_in_slot slot) (opened_slot m.setup i.frame p m.core).message) part_is in
    let starts = c.times_of-times.ensures.start ∙ ap (λ (n : NodeState). starts_at n.setup.profile n.node.zero slot) (sym c.self.view_is) in
    let closes = c.times_of-times.ensures.until ∙ ap (λ (n : NodeState). closes_at n.setup.profile n.node.zero slot) (sym c.self.view_is) in
    let orders = orders_are p i.reference.zero slot c.times_of-times.result.start c.times_of-times.result.until c.rank-rank.result
    (rank_of m.core.tune) c.speak-packet.result (opened_slot m.setup i.frame (part_of m.core.plan slot) m.core).message starts closes
    c.rank-rank.ensures said in
    subst (λ (l : List Order). Gives (g.R.Radio.told c.args.radio.now) (g.R.Radio.told c.order.new.radio) l)
    (orders ∙ ap (λ (n : NodeState). (window_opens n.setup n.node slot).orders) c.self.view_is) c.order.ensures

pub invariant_of-self : goal.invariant_of-self
invariant_of-self g c =
    let i = c.self.inside in
    let m = i.member in
    let slot = c.args.slot in
    let part = c.args.part in
    let new = c.speak-packet.new.self in
    let stage_was : i.stage ≡ AwaitSlot slot = ap (λ (n : NodeState). n.node.stage) c.self.view_is ∙ c.requires.stage in
    let part_is = c.requires.part ∙ ap (λ (n : NodeState). part_of n.node.core.plan slot) (sym c.self.view_is) in
    let own : IsInOwnRound i.frame m.core = subst (HostsIn i.frame m.core) stage_was c.self.invariant.hosted in
    let had : KeepsFew m.setup.profile m.core (AwaitSlot slot) = subst (KeepsFew m.setup.profile m.core) stage_was c.self.invariant.kept in
    let flood = flood_with (kind_for part) slot c.sends-sends.result c.speak-packet.result in
    let last = c.last_slot-last.result in
    let after : InWindow slot (record { part = part; last = last; flood = flood; reference = None }) ≡ c.open.new.stage = sym c.open.ensures in
    let inside : IsInside new.core.plan slot last part =
    subst (λ (x : Member). IsInside x.core.plan slot last part) (sym c.speak-packet.ensures.core)
    (subst (λ (l : ℕ). IsInside (opened_slot m.setup i.frame part m.core).core.plan slot l part) (sym c.last_slot-last.ensures.value)
    (opens_inside m.setup i.frame slot m.core part part_is)) in
    let kept : KeepsFew new.setup.profile new.core (InWindow slot (record { part = part; last = last; flood = flood; reference = None })) =
    subst (λ (x : Member). KeepsFew x.setup.profile x.core (InWindow slot (record { part = part; last = last; flood = flood; reference = None })))
    (sym c.speak-packet.ensures.core) (opens_keeps m.setup i.frame slot m.core had own last flood None part part_is) in
    rw c.open.ensures (search rules)

pub returns-clause-node : goal.returns-clause-node
returns-clause-node g c =
    let i = c.self.inside in
    let m = i.member in
    let slot = c.args.slot in
    let part = part_of m.core.plan slot in
    let o = opened_slot m.setup i.frame part m.core in
    let part_is = c.requires.part ∙ ap (λ (n : NodeState). part_of n.node.core.plan slot) (sym c.self.view_is) in
    let said = c.speak-packet.ensures.packet
    ∙ ap (λ (p : Part). option_map (bytes_in_slot slot) (opened_slot m.setup i.frame p m.core).message) part_is in
    let stage = c.open.ensures ∙ stage_is m.setup slot c.sends-sends.result c.last_slot-last.result (last_slot m.core.plan) c.args.part part
    c.speak-packet.result o.message c.sends-sends.ensures.value c.last_slot-last.ensures.value part_is said in
    let after = c.speak-packet.ensures.core ∙ ap (λ (p : Part). record m { core = (opened_slot m.setup i.frame p m.core).core }) part_is in
    let node : Member → Stage → Node = λ x s. record { core = x.core; frame = i.frame; zero = i.reference.zero; stage = s } in
    let at : Member → Stage → NodeState = λ x s. record { setup = x.setup; node = node x s; delivery = None } in
    let left : Option Delivery → NodeState = λ d.
    record { setup = c.speak-packet.new.self.setup; node = node c.speak-packet.new.self c.open.new.stage; delivery = d } in
    ap left c.forget.ensures
    ∙ ap (at c.speak-packet.new.self) stage ∙ ap (λ (x : Member). at x (opened_stage m.setup slot (last_slot m.core.plan) part o.message)) after
    ∙ ap (λ (n : NodeState). record n { node = (window_opens n.setup n.node slot).node; delivery = None }) c.self.view_is
