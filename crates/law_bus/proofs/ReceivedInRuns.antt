-- In a data slot of a run members deliver what relay paths bring to them, in the step of the shortest, and nobody else delivers.
use Rattle.std.proofs.Common.{◌≡◌, ◌≢◌, ℕ, suc, ◌≤◌, ◌↔◌, ◌==◌, List, true, Some, Option, Contains, refl, sym, ◌∙◌, ap, subst, arith}
use Rattle.std.proofs.lemmas.Bool.{eqb-true}
use Rattle.lwb_base.specs.Messages.{Plan, node_of}
use Rattle.bus_rules.specs.declared.delivery.Delivery.{Delivery}
use Rattle.bus_rules.specs.declared.part.Part.TheVariants.{Data as DataSlot}
use Rattle.bus_rules.specs.Plans.{last_slot}
use Rattle.bus_rules.specs.Slots.{DataOf, delivery_of, part_of}
use Rattle.glossy_relay.specs.Relaying.{accepted_of}
use Rattle.scenario_text.specs.ScenarioParts.{ScenarioParts}
use Rattle.scenario_text.specs.FloodParts.{knows}
use Rattle.scenario_text.specs.declared.lines.NodeLine.{NodeLine}
use Rattle.lwb_base.proofs.Elements.{map_contains, some_of}
use Rattle.air_log.specs.declared.entry.Entry.{Entry}
use Rattle.air_log.specs.Deliveries.{deliveries_of}
use Rattle.air_log.specs.Trails.{run_end}
use Rattle.air_log.specs.WindowLogs.{WindowLog}
use Rattle.law_windows.proofs.WindowFacts.{one_a_slot}
use Rattle.bus_terms.specs.Bus.{bus_deliveries, state_at}
use Rattle.bus_terms.specs.FloodOfText.{ids}
use Rattle.bus_terms.specs.Flooding.{has}
use Rattle.bus_terms.specs.RelayPaths.{IsLeast}
use Rattle.bus_terms.proofs.DeliveredSteps.{DeliversAt, IsDelivered, delivered_so, delivers_least}
use Rattle.bus_terms.proofs.FirstHearings.{heard_in_time}
use Rattle.bus_terms.proofs.OrderedDeliveries.{data_in_round}
use Rattle.law_terms.specs.LawfulRuns.{IsLawfulRun}
use Rattle.bus_terms.specs.HostedRounds.{slot_in}
use Rattle.law_terms.specs.SlotLaws.{IsRound, IsSlot}
use Rattle.law_bus.specs.ReceivedInRuns.{DeliversIn, IsMemberIn, IsReceivedInSlot}
use Rattle.law_bus.proofs.BusDeliveries.{from_bus, in_bus, line_known, made_at, made_so}
use Rattle.law_bus.proofs.BusLaws.{delivered, slots_are_floods}
use Rattle.law_bus.proofs.RunsOfLogs.{run}
use Rattle.lwb_flood.proofs.LogEntries.{ids_known}

module _ (s : ScenarioParts) (clocks : ℕ → ℕ → ℕ) (air : List Entry) (lawful : IsLawfulRun s clocks air)
    (rank f j : ℕ) (p : Plan) (round : IsRound s rank f p) (owner : ℕ) (is : part_of p j ≡ DataSlot owner) where
  within : j ≤ last_slot p
  within = data_in_round p j owner is

  slot : IsSlot s clocks air rank f p j
  slot = slots_are_floods s clocks air lawful rank f j p round within

  same : deliveries_of s clocks air ≡ bus_deliveries s
  same = delivered s clocks air lawful

  abbrev OnBus : ℕ → ℕ → Type 0
  OnBus v k = DeliversAt s rank f p (state_at s f) j owner v k

  abbrev InRun : ℕ → ℕ → Type 0
  InRun v k = DeliversIn s clocks air rank f j v k

  named : (v : ℕ) → knows s.nodes v ≡ true → Contains (ids s.nodes) v
  named v known =
      let n = some_of (λ (m : NodeLine). m.node == v) s.nodes known in
      subst (Contains (ids s.nodes)) (eqb-true n.0.node v n.2) (map_contains (λ (m : NodeLine). m.node) s.nodes n.0 n.1)

  -- what is delivered on the bus in a step is delivered in the run in this step
  to_run : (v k : ℕ) → knows s.nodes v ≡ true → OnBus v k → InRun v k
  to_run v k known on =
      let in_time = heard_in_time (slot_in s rank f p j).flood k v (node_of owner) on.accepts.hears in
      record {
        packet = on.packet;
        delivered = subst (λ (ds : List Delivery). Contains ds (delivery_of v f rank j on.packet)) (sym same)
            (in_bus s rank f j v p round within (named v known) (delivery_of v f rank j on.packet) on.delivered);
        accepted = (slot.accepts v k (node_of owner) (DataOf on.packet) (on.speaks, on.said) (omega (arith, in_time))).0 on.accepts;
      }

  -- each delivery of the slot is one of the bus
  of_bus : (d : Delivery) → Contains (deliveries_of s clocks air) d → d.frame ≡ f → d.rank ≡ rank → d.slot ≡ j
      → IsDelivered s lawful.sound rank f p (state_at s f) j owner is d.node d
  of_bus d there frame channel at =
      let made = from_bus s d (subst (λ (ds : List Delivery). Contains ds d) same there) in
      delivered_so s lawful.sound rank f p (state_at s f) j owner is d.node d (made_so s d made rank f j p round frame channel at)

  -- a window accepts once
  one_step : (v k i : ℕ) → knows s.nodes v ≡ true → InRun v k → InRun v i → k ≡ i
  one_step v k i known first second =
      let a = first.accepted in
      let b = second.accepted in
      let window : a.window ≡ b.window =
      one_a_slot s clocks air (run s clocks air lawful) v known (run_end s) (omega arith) a.window b.window a.here.there b.here.there
      (record { rank = a.here.channel ∙ sym b.here.channel; frame = a.here.frame ∙ sym b.here.frame; slot = a.here.slot ∙ sym b.here.slot }) in
      counters _ _ (sym a.accepted ∙ ap (λ (w : WindowLog). accepted_of w.last.flood) window ∙ b.accepted)
    where
      counters : (x y : List ℕ × ℕ) → ◌≡◌ {A = Option (List ℕ × ℕ)} (Some x) (Some y) → x.1 ≡ y.1
      counters x y is = ap (λ (z : List ℕ × ℕ). z.1) (pair_same x y is)
        where
          pair_same : (x y : List ℕ × ℕ) → ◌≡◌ {A = Option (List ℕ × ℕ)} (Some x) (Some y) → x ≡ y
          pair_same x y is = cc

  to_bus : (v k : ℕ) → knows s.nodes v ≡ true → InRun v k → OnBus v k
  to_bus v k known delivers =
      let on = of_bus (delivery_of v f rank j delivers.packet) delivers.delivered refl refl refl in
      let step = one_step v k on.step known delivers (to_run v on.step known on.delivers) in
      subst (OnBus v) (sym step) on.delivers

  by_paths : (v k : ℕ) → IsMemberIn s rank f p j v → v ≢ node_of owner → (InRun v k ↔ IsLeast (slot_in s rank f p j).flood (node_of owner) (suc k) v)
  by_paths v k member other =
      let there : has (ids s.nodes) v ≡ true = ids_known s.nodes v ∙ member.known in
      let least = delivers_least s lawful.sound rank f p (state_at s f) j owner is v k there member.opens other in
      (λ delivers. least.0 (to_bus v k member.known delivers), λ path. to_run v k member.known (least.1 path))

  pub received_in_slot : IsReceivedInSlot s clocks air rank f p j owner
  received_in_slot = record {
    by_paths = by_paths;
    nobody_else = λ d there frame channel at.
        (let made = from_bus s d (subst (λ (ds : List Delivery). Contains ds d) same there) in
        let known = subst (λ (v : ℕ). knows s.nodes v ≡ true) (made_at s d made) (line_known s made.line made.named) in
        let on = of_bus d there frame channel at in
        (record { known = known; opens = on.opens }, on.other, (on.step, to_run d.node on.step known on.delivers)));
  }
