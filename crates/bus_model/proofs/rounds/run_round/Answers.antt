use Rattle.std.proofs.Common.{◌≡◌, ◌≤◌, ◌+◌, ◌++◌, ◌==◌, [], ℕ, List, Option, Some, None, Vec, Global, if◌then◌else◌, length, map, flat_map, sym, ◌∙◌, ap}
use Rattle.std.proofs.Common.{filter_map, subst, arith, append-nil, rules}
use Rattle.std.specs.Option.{option_map, option_map_or}
use Rattle.std.proofs.lemmas.Result.{on_ok_weaker}
use Rattle.lwb_base.specs.Messages.{Plan}
use Rattle.bus_rules.specs.declared.delivery.Delivery.{Delivery}
use Rattle.bus_rules.specs.declared.part.Part.{Part}
use Rattle.bus_rules.specs.States.{State}
use Rattle.bus_terms.specs.FloodOfText.{ids}
use Rattle.bus_terms.specs.Packets.{sent_in_slot}
use Rattle.bus_terms.specs.declared.packets.SentPacket.{SentPacket}
use Rattle.bus_terms.specs.Rounds.{after_round, round_plan, slot_deliveries, slots_of}
use Rattle.plain_bus.specs.BusNodes.{nodes_in, ranks_in}
use Rattle.plain_bus.specs.Leaders.{slot_parts}
use Rattle.plain_bus.specs.Networks.{Network}
use Rattle.plain_bus.specs.RunFloods.{HasRun, SlotFlood, slot_flood}
use Rattle.bus_model.proofs.RanksInTurn.{led_some, led_none, with_plan, no_round}
use Rattle.bus_model.proofs.SlotsInTurn.{ready_more}
use Rattle.bus_model.proofs.rounds.run_round.Given.{Over}
use Rattle.bus_model.proofs.rounds.run_round.Goals as goal

abbrev items_of : Option (Vec Part Global) → Option (List Part)
items_of o = option_map {T = Vec Part Global} {U = List Part} (λ x. x.items) o

module _ (g : Over) (c : goal.After-drop-parts g) (start others : ℕ
    → State) (olds : c.args.net.now.nodes ≡ nodes_in c.args.s.now c.args.rank start start others) where
  led : (p : Plan) × (round_plan c.args.s.now c.args.rank c.args.frame start ≡ Some p) × (c.in-Some.parts.items ≡ slot_parts p)
  led = led_some (round_plan c.args.s.now c.args.rank c.args.frame start) c.in-Some.parts.items
      (ap items_of (sym c.in-Some.is)
      ∙ c.in_ok-parts.ensures.parts c.args.s.now start others (c.deref.ensures.value ∙ ap (λ (n : Network). n.nodes) c.net.view_is ∙ olds))

  parts_are : c.deref-in-Some.result.now ≡ slot_parts led.0
  parts_are = c.deref-in-Some.ensures.value ∙ led.2

pub returns-in-Some-clause-ready : goal.returns-in-Some-clause-ready
returns-in-Some-clause-ready g c =
    on_ok_weaker c.run_slots.result
    (λ ran m is. (let few : length c.in-Some.parts.items ≤ 46 = search rules in ready_more c.args.s.now c.args.frame (m + length c.deref-in-Some.result.now)
    (m + 46) c.run_slots.new.net (omega (arith, few, ap length c.deref-in-Some.ensures.value)) (ran m is))) c.run_slots.ensures.ready

pub returns-in-Some-clause-nodes : goal.returns-in-Some-clause-nodes
returns-in-Some-clause-nodes g c = on_ok_weaker c.run_slots.result (λ ran start others olds room.
    (let l = led g c start others olds in
    ran l.0 start others (parts_are g c start others olds) olds (room l.0 l.1)
    ∙ ap (λ (o : Option Plan). nodes_in c.args.s.now c.args.rank start (after_round c.args.s.now c.args.rank c.args.frame start o) others) (sym l.1)))
    c.run_slots.ensures.nodes

pub returns-in-Some-clause-deliveries : goal.returns-in-Some-clause-deliveries
returns-in-Some-clause-deliveries g c = on_ok_weaker c.run_slots.result (λ ran start others olds room.
    (let l = led g c start others olds in
    ran l.0 start others (parts_are g c start others olds) olds (room l.0 l.1)
    ∙ ap (λ (o : Option Plan). c.args.net.now.deliveries ++ option_map_or {T = Plan} {U = List Delivery}
    (λ p. flat_map (slot_deliveries c.args.s.now c.args.rank c.args.frame p start) (slots_of p)) o []) (sym l.1)))
    c.run_slots.ensures.deliveries

pub returns-in-Some-clause-sent : goal.returns-in-Some-clause-sent
returns-in-Some-clause-sent g c = on_ok_weaker c.run_slots.result (λ ran start others olds room off.
    (let l = led g c start others olds in
    ran l.0 start others (parts_are g c start others olds) olds (room l.0 l.1) off
    ∙ ap (λ (o : Option Plan). c.args.net.now.sent ++ option_map_or {T = Plan} {U = List SentPacket}
    (λ p. filter_map (sent_in_slot c.args.s.now c.args.rank c.args.frame p start) (slots_of p)) o []) (sym l.1)))
    c.run_slots.ensures.sent

pub returns-in-Some-clause-floods : goal.returns-in-Some-clause-floods
returns-in-Some-clause-floods g c = on_ok_weaker c.run_slots.result (λ ran start others before olds room had.
    (let l = led g c start others olds in
    subst (λ (o : Option Plan). HasRun c.args.s.now c.args.frame (before ++ option_map_or {T = Plan} {U = List SlotFlood}
    (λ p. map (slot_flood c.args.s.now c.args.rank c.args.frame p start) (slots_of p)) o []) c.run_slots.new.net.floods) (sym l.1)
    (ran l.0 start others before (parts_are g c start others olds) olds (room l.0 l.1) had)))
    c.run_slots.ensures.floods

pub returns-in-Some-clause-costs : goal.returns-in-Some-clause-costs
returns-in-Some-clause-costs g c = on_ok_weaker c.run_slots.result (λ ran start others cost olds room costs.
    (let l = led g c start others olds in
    ran l.0 start others cost (parts_are g c start others olds) olds (room l.0 l.1) costs
    ∙ ap (λ (o : Option Plan). map (λ (v : ℕ). if ranks_in start v == c.args.rank then with_plan c.args.s.now c.args.rank c.args.frame start o v
    (cost v) else cost v) (ids c.args.s.now.nodes)) (sym l.1)))
    c.run_slots.ensures.costs

module _ (g : Over) (c : goal.In-None g) (start others : ℕ → State) (olds : c.args.net.now.nodes ≡ nodes_in c.args.s.now c.args.rank start start others) where
  no_plan : round_plan c.args.s.now c.args.rank c.args.frame start ≡ None
  no_plan = led_none (round_plan c.args.s.now c.args.rank c.args.frame start)
      (ap items_of (sym c.in-None.is)
      ∙ c.in_ok-parts.ensures.parts c.args.s.now start others (c.deref.ensures.value ∙ ap (λ (n : Network). n.nodes) c.net.view_is ∙ olds))

pub returns-in-None-clause-nodes : goal.returns-in-None-clause-nodes
returns-in-None-clause-nodes g c start others olds room =
    olds ∙ ap (λ (o : Option Plan). nodes_in c.args.s.now c.args.rank start (after_round c.args.s.now c.args.rank c.args.frame start o) others)
    (sym (no_plan g c start others olds))

pub returns-in-None-clause-deliveries : goal.returns-in-None-clause-deliveries
returns-in-None-clause-deliveries g c start others olds room =
    sym (append-nil c.args.net.now.deliveries)
    ∙ ap (λ (o : Option Plan). c.args.net.now.deliveries ++ option_map_or {T = Plan} {U = List Delivery}
    (λ p. flat_map (slot_deliveries c.args.s.now c.args.rank c.args.frame p start) (slots_of p)) o []) (sym (no_plan g c start others olds))

pub returns-in-None-clause-sent : goal.returns-in-None-clause-sent
returns-in-None-clause-sent g c start others olds room off =
    sym (append-nil c.args.net.now.sent)
    ∙ ap (λ (o : Option Plan). c.args.net.now.sent ++ option_map_or {T = Plan} {U = List SentPacket}
    (λ p. filter_map (sent_in_slot c.args.s.now c.args.rank c.args.frame p start) (slots_of p)) o []) (sym (no_plan g c start others olds))

pub returns-in-None-clause-floods : goal.returns-in-None-clause-floods
returns-in-None-clause-floods g c start others before olds room had =
    subst (λ (o : Option Plan). HasRun c.args.s.now c.args.frame (before ++ option_map_or {T = Plan} {U = List SlotFlood}
    (λ p. map (slot_flood c.args.s.now c.args.rank c.args.frame p start) (slots_of p)) o []) c.args.net.now.floods) (sym (no_plan g c start others olds))
    (subst (λ (ys : List SlotFlood). HasRun c.args.s.now c.args.frame ys c.args.net.now.floods) (sym (append-nil before)) had)

pub returns-in-None-clause-costs : goal.returns-in-None-clause-costs
returns-in-None-clause-costs g c start others cost olds room costs =
    costs ∙ no_round c.args.s.now c.args.rank c.args.frame start cost
    ∙ ap (λ (o : Option Plan). map (λ (v : ℕ). if ranks_in start v == c.args.rank then with_plan c.args.s.now c.args.rank c.args.frame start o v
    (cost v) else cost v) (ids c.args.s.now.nodes)) (sym (no_plan g c start others olds))
