use Rattle.std.proofs.Common.{◌≡◌, ◌+◌, ◌++◌, ◌==◌, ℕ, List, if◌then◌else◌, length, map, filter_map, flat_map, sym, ◌∙◌, ap, subst, arith, append_assoc}
use Rattle.std.proofs.Common.{append-nil, option_to_list}
use Rattle.std.specs.List.{range_with_len}
use Rattle.bus_rules.specs.declared.delivery.Delivery.{Delivery}
use Rattle.bus_terms.specs.FloodOfText.{ids}
use Rattle.bus_terms.specs.Packets.{sent_in_slot}
use Rattle.bus_terms.specs.declared.packets.SentPacket.{SentPacket}
use Rattle.bus_terms.specs.Rounds.{slot_deliveries}
use Rattle.plain_bus.specs.BusNodes.{nodes_before, ranks_in}
use Rattle.plain_bus.specs.Networks.{IsReady}
use Rattle.plain_bus.specs.RunFloods.{HasRun, SlotFlood, slot_flood}
use Rattle.bus_model.specs.RoundCosts.{with_slots}
use Rattle.bus_model.proofs.SlotsInTurn.{ready_more, part_at, parts_count, before_first, flat_more, kept_more, slots_more, costs_first, costs_more}
use Rattle.bus_model.proofs.rounds.run_slots.Goals as goal

pub loop-slot-init : goal.loop-slot-init
loop-slot-init g c = record {
  ready = λ m is. ready_more c.args.s.now c.args.frame m (m + 0) c.args.net.now (omega arith) is;
  nodes_are = λ p start others are olds room. olds ∙ before_first c.args.s.now c.args.rank c.args.frame p start others;
  delivered = λ p start others are olds room. sym (append-nil c.args.net.now.deliveries);
  sent = λ p start others are olds room off. sym (append-nil c.args.net.now.sent);
  ran = λ p start others before are olds room had.
      subst (λ (ys : List SlotFlood). HasRun c.args.s.now c.args.frame ys c.args.net.now.floods) (sym (append-nil before)) had;
  costs_are = λ p start others cost are olds room costs. costs ∙ costs_first c.args.s.now c.args.rank c.args.frame p start cost;
}

pub run_slot-requires-clause-ready : goal.run_slot-requires-clause-ready
run_slot-requires-clause-ready g c =
    let few = c.requires.few in
    ready_more c.args.s.now c.args.frame (1040000 + c.loop-slot.slot) 1048576 c.loop-slot.net (omega (arith, few, c.loop-slot-test.true))
    (c.loop-slot.invariant.ready 1040000 c.requires.ready)

pub loop-slot-preserved : goal.loop-slot-preserved
loop-slot-preserved g c =
    let s = c.args.s.now in
    let rank = c.args.rank in
    let f = c.args.frame in
    let i = c.loop-slot.slot in
    let old = c.loop-slot.net in
    let inv = c.loop-slot.invariant in
    let ran = c.in_ok-run_slot.ensures in
    record {
      ready = λ m is. ready_more s f (m + i + 1) (m + (i + 1)) c.run_slot.new.self (omega arith) (ran.ready (m + i) (inv.ready m is));
      nodes_are = λ p start others are olds room.
          ran.nodes p start others (inv.nodes_are p start others are olds room)
          (part_at p c.args.parts.now i c.index-parts-slot.result are c.loop-slot-test.true c.index-parts-slot.is) (room i);
      delivered = λ p start others are olds room.
          (let first = c.args.net.now.deliveries in
          let said = slot_deliveries s rank f p start in
          ran.deliveries p start others (inv.nodes_are p start others are olds room)
          (part_at p c.args.parts.now i c.index-parts-slot.result are c.loop-slot-test.true c.index-parts-slot.is) (room i)
          ∙ ap (λ (l : List Delivery). l ++ said i) (inv.delivered p start others are olds room)
          ∙ append_assoc first (flat_map said (range_with_len 0 i)) (said i)
          ∙ ap (λ (l : List Delivery). first ++ l) (sym (flat_more said i)));
      sent = λ p start others are olds room off.
          (let first = c.args.net.now.sent in
          let said = sent_in_slot s rank f p start in
          ran.sent p start others (inv.nodes_are p start others are olds room)
          (part_at p c.args.parts.now i c.index-parts-slot.result are c.loop-slot-test.true c.index-parts-slot.is) off
          ∙ ap (λ (l : List SentPacket). l ++ option_to_list (said i)) (inv.sent p start others are olds room off)
          ∙ append_assoc first (filter_map said (range_with_len 0 i)) (option_to_list (said i))
          ∙ ap (λ (l : List SentPacket). first ++ l) (sym (kept_more said i)));
      ran = λ p start others before are olds room had.
          subst (λ (ys : List SlotFlood). HasRun s f ys c.run_slot.new.self.floods) (slots_more (slot_flood s rank f p start) i before)
          (ran.floods p start others (before ++ map (slot_flood s rank f p start) (range_with_len 0 i)) (inv.nodes_are p start others are olds room)
          (part_at p c.args.parts.now i c.index-parts-slot.result are c.loop-slot-test.true c.index-parts-slot.is)
          (inv.ran p start others before are olds room had));
      costs_are = λ p start others cost are olds room costs.
          ran.costs p start others (λ (v : ℕ). if ranks_in start v == rank then with_slots s rank f p start i v (cost v) else cost v)
          (inv.nodes_are p start others are olds room)
          (part_at p c.args.parts.now i c.index-parts-slot.result are c.loop-slot-test.true c.index-parts-slot.is) (room i)
          (inv.costs_are p start others cost are olds room costs)
          ∙ costs_more s rank f p start i cost;
    }

pub returns-clause-ready : goal.returns-clause-ready
returns-clause-ready g c m is =
    let all : c.loop-slot.slot ≡ length c.args.parts.now = omega (arith, c.loop-slot-test.false, c.loop-slot.auto.slot-end) in
    subst (λ (n : ℕ). IsReady c.args.s.now c.args.frame (m + n) c.loop-slot.net) all (c.loop-slot.invariant.ready m is)

pub returns-clause-nodes : goal.returns-clause-nodes
returns-clause-nodes g c p start others are olds room =
    let all : c.loop-slot.slot ≡ length c.args.parts.now = omega (arith, c.loop-slot-test.false, c.loop-slot.auto.slot-end) in
    c.loop-slot.invariant.nodes_are p start others are olds room
    ∙ ap (λ (n : ℕ). nodes_before c.args.s.now c.args.rank c.args.frame p start others n) (all ∙ parts_count p c.args.parts.now are)

pub returns-clause-deliveries : goal.returns-clause-deliveries
returns-clause-deliveries g c p start others are olds room =
    let all : c.loop-slot.slot ≡ length c.args.parts.now = omega (arith, c.loop-slot-test.false, c.loop-slot.auto.slot-end) in
    c.loop-slot.invariant.delivered p start others are olds room
    ∙ ap (λ (n : ℕ). c.args.net.now.deliveries ++ flat_map (slot_deliveries c.args.s.now c.args.rank c.args.frame p start) (range_with_len 0 n))
    (all ∙ parts_count p c.args.parts.now are)

pub returns-clause-sent : goal.returns-clause-sent
returns-clause-sent g c p start others are olds room off =
    let all : c.loop-slot.slot ≡ length c.args.parts.now = omega (arith, c.loop-slot-test.false, c.loop-slot.auto.slot-end) in
    c.loop-slot.invariant.sent p start others are olds room off
    ∙ ap (λ (n : ℕ). c.args.net.now.sent ++ filter_map (sent_in_slot c.args.s.now c.args.rank c.args.frame p start) (range_with_len 0 n))
    (all ∙ parts_count p c.args.parts.now are)

pub returns-clause-floods : goal.returns-clause-floods
returns-clause-floods g c p start others before are olds room had =
    let all : c.loop-slot.slot ≡ length c.args.parts.now = omega (arith, c.loop-slot-test.false, c.loop-slot.auto.slot-end) in
    subst (λ (n : ℕ). HasRun c.args.s.now c.args.frame (before ++ map (slot_flood c.args.s.now c.args.rank c.args.frame p start) (range_with_len 0 n))
    c.loop-slot.net.floods) (all ∙ parts_count p c.args.parts.now are) (c.loop-slot.invariant.ran p start others before are olds room had)

pub returns-clause-costs : goal.returns-clause-costs
returns-clause-costs g c p start others cost are olds room costs =
    let all : c.loop-slot.slot ≡ length c.args.parts.now = omega (arith, c.loop-slot-test.false, c.loop-slot.auto.slot-end) in
    c.loop-slot.invariant.costs_are p start others cost are olds room costs
    ∙ ap (λ (n : ℕ). map (λ (v : ℕ). if ranks_in start v == c.args.rank then with_slots c.args.s.now c.args.rank c.args.frame p start n v
    (cost v) else cost v) (ids c.args.s.now.nodes)) (all ∙ parts_count p c.args.parts.now are)
