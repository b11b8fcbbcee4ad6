use Rattle.std.proofs.Common.{◌≡◌, ℕ, refl, ◌∙◌, sym, ap, subst, List, None, option_map, rules}
use Rattle.std.specs.declared.option.Option.{Option}
use Rattle.lwb_base.specs.declared.order.Order.{Order}
use Rattle.bus_rules.specs.declared.delivery.Delivery.{Delivery}
use Rattle.bus_rules.specs.declared.part.Part.{Part}
use Rattle.bus_rules.specs.Plans.{last_slot}
use Rattle.bus_rules.specs.Tuning.{rank_of}
use Rattle.bus_rules.specs.Cores.{Core}
use Rattle.bus_rules.specs.Slots.{Opened, opened_slot, part_of}
use Rattle.lwb_member.specs.Said.{bytes_in_slot}
use Rattle.node_core.specs.declared.stage.Stage.{Stage}
use Rattle.node_core.specs.Nodes.{Node, NodeState, starts_at, closes_at}
use Rattle.node_core.specs.Rows.{window_opens}
use Rattle.lwb_base.specs.Orders.{Gives}
use Rattle.node_core.proofs.OpenedWindows.{orders_are, opened_stage, stage_is}
use Rattle.node_core.proofs.node.Node.open_silent.Goals as goal

pub returns-clause-orders : goal.returns-clause-orders
returns-clause-orders g c =
    let i = c.self.inside in
    let m = i.member in
    let slot = c.args.slot in
    let o = opened_slot m.setup i.frame (part_of m.core.plan slot) m.core in
    let none : Option (List ℕ) = None in
    let part_is = c.requires.part ∙ ap (λ (n : NodeState). part_of n.node.core.plan slot) (sym c.self.view_is) in
    let quiet = ap (λ (p : Part). opened_slot m.setup i.frame p m.core) (sym part_is)
    ∙ ap (λ (n : NodeState). opened_slot n.setup n.node.frame c.args.part n.node.core) c.self.view_is ∙ c.requires.silent in
    let said : none ≡ option_map (bytes_in_slot slot) o.message = ap (λ (x : Opened). option_map (bytes_in_slot slot) x.message) (sym quiet) in
    let closes = ap (λ (n : NodeState). closes_at n.setup.profile n.node.zero slot) (sym c.self.view_is) in
    let until = c.times_of-until.ensures.until ∙ closes in
    let orders = orders_are m.setup.profile i.reference.zero slot (starts_at m.setup.profile i.reference.zero slot)
    c.times_of-until.result.until c.rank-rank.result (rank_of m.core.tune) none o.message refl until c.rank-rank.ensures said in
    subst (λ (l : List Order). Gives (g.R.Radio.told c.args.radio.now) (g.R.Radio.told c.order_listening.new.radio) l)
    (orders ∙ ap (λ (n : NodeState). (window_opens n.setup n.node slot).orders) c.self.view_is) c.order_listening.ensures

pub invariant_of-self : goal.invariant_of-self
invariant_of-self g c = rw c.listen.ensures (search rules)

pub returns-clause-node : goal.returns-clause-node
returns-clause-node g c =
    let i = c.self.inside in
    let m = i.member in
    let slot = c.args.slot in
    let part = part_of m.core.plan slot in
    let o = opened_slot m.setup i.frame part m.core in
    let none : Option (List ℕ) = None in
    let part_is = c.requires.part ∙ ap (λ (n : NodeState). part_of n.node.core.plan slot) (sym c.self.view_is) in
    let quiet = ap (λ (p : Part). opened_slot m.setup i.frame p m.core) (sym part_is)
    ∙ ap (λ (n : NodeState). opened_slot n.setup n.node.frame c.args.part n.node.core) c.self.view_is ∙ c.requires.silent in
    let said : none ≡ option_map (bytes_in_slot slot) o.message = ap (λ (x : Opened). option_map (bytes_in_slot slot) x.message) (sym quiet) in
    let stage = c.listen.ensures ∙ stage_is m.setup slot c.sends-sends.result c.last_slot-last.result (last_slot m.core.plan) c.args.part part
    none o.message c.sends-sends.ensures.value c.last_slot-last.ensures.value part_is said in
    let same = ap (λ (n : NodeState). n.node.core) (sym c.self.view_is) in
    let core = sym (ap (λ (x : Opened). x.core) quiet ∙ same) in
    let node : Core → Stage → Node = λ x s. record { core = x; frame = i.frame; zero = i.reference.zero; stage = s } in
    let at : Core → Stage → NodeState = λ x s. record { setup = m.setup; node = node x s; delivery = None } in
    let left : Option Delivery → NodeState = λ d. record { setup = m.setup; node = node m.core c.listen.new.stage; delivery = d } in
    ap left c.forget.ensures
    ∙ ap (at m.core) stage ∙ ap (λ (x : Core). at x (opened_stage m.setup slot (last_slot m.core.plan) part o.message)) core
    ∙ ap (λ (n : NodeState). record n { node = (window_opens n.setup n.node slot).node; delivery = None }) c.self.view_is
