-- What is delivered in a valid run, and what is lost before it is queued, is that of the bus.
use Rattle.std.proofs.Common.{◌≡◌, ℕ, ◌<◌, ◌≤◌, ◌==◌, eq-eqb, List, [], ◌∷◌, Bool, true, false, Some, None, Option, option_to_list, inl, inr, All}
use Rattle.std.proofs.Common.{Contains, flat_map, get_or, refl, sym, ◌∙◌, ap, subst, arith}
use Rattle.std.specs.List.{AllByRecursion}
use Rattle.std.proofs.lemmas.List.Elements.{Contains-append_left, Contains-append_right}
use Rattle.lwb_base.specs.Messages.{Plan}
use Rattle.bus_rules.specs.declared.delivery.Delivery.{Delivery}
use Rattle.bus_rules.specs.Cores.{Setup}
use Rattle.bus_rules.specs.Plans.{last_slot}
use Rattle.scenario_text.specs.ScenarioParts.{ScenarioParts}
use Rattle.scenario_text.specs.FloodParts.{knows}
use Rattle.scenario_text.specs.declared.lines.NodeLine.{NodeLine}
use Rattle.scenario_text.specs.FloodDrafts.{Climbs}
use Rattle.lwb_base.proofs.Elements.{any_of, from_flat, in_flat, map_contains, not_in_none, of_option, contains_cases}
use Rattle.air_log.specs.declared.entry.Entry.{Entry}
use Rattle.air_log.specs.Deliveries.{deliveries_of_node as delivered_in_air, deliveries_of}
use Rattle.air_log.specs.Devices.{Device}
use Rattle.air_log.specs.Drops.{drops_of}
use Rattle.air_log.specs.Lawful.{trail_in}
use Rattle.scenario_text.specs.Setups.{setup_of}
use Rattle.air_log.specs.Trails.{run_end}
use Rattle.air_log.specs.WindowLogs.{WindowLog, Closing}
use Rattle.law_safety.proofs.RunFacts.{frame_lasts}
use Rattle.law_windows.specs.WindowDeliveries.{delivery_at_closing, delivered_by, delivered_in}
use Rattle.law_windows.proofs.WindowFacts.{deliveries_of_windows}
use Rattle.bus_terms.specs.FloodOfText.{ids}
use Rattle.bus_terms.specs.Rounds.{delivery_in_slot}
use Rattle.bus_terms.specs.Bus.{bus_deliveries, bus_drops, state_at}
use Rattle.bus_terms.proofs.ListsInTurn.{pairs_in_turn, pieces_in_turn}
use Rattle.law_windows.proofs.Strangers.{at_rest_always}
use Rattle.law_terms.specs.LawfulRuns.{IsLawfulRun}
use Rattle.law_terms.specs.RunLaws.{AnyClocksLaw, DeliveriesLaw, DropsLaw}
use Rattle.law_terms.specs.SlotLaws.{IsAligned, IsRound, IsWindowOf}
use Rattle.law_terms.specs.SlotSteps.{IsSlotStart, IsSlotHeard, SlotHeardLaw}
use Rattle.law_terms.proofs.SameDrops.{IsStart, all_drops_same}
use Rattle.law_bus.proofs.BusDeliveries.{from_bus, in_bus}
use Rattle.law_bus.proofs.CoresOfWindows.{all_slots, cores_law}
use Rattle.law_bus.proofs.DeliveredInSlots.{delivered_nowhere, delivered_same}
use Rattle.law_bus.proofs.DeliveriesInTurn.{bus_in_turn, from_windows, node_apart, node_places}
use Rattle.law_bus.proofs.DeliveriesApart.{Apart, put_in_order, places_apart}
use Rattle.law_bus.proofs.FramesInTurn.{frame_before}
use Rattle.law_bus.proofs.RunsOfLogs.{run, known_by}
use Rattle.law_bus.proofs.SlotsAtNodes.{look_up}
use Rattle.law_bus.proofs.WindowsInTurn.{closing_of}

-- what a window delivers is among what its node delivers
in_windows : (S : Setup) (ws : List WindowLog) (w : WindowLog) (c : Closing) (a : Delivery) → Contains ws w → w.closed ≡ Some c
    → delivery_at_closing S w ≡ Some a → Contains (delivered_in S ws) a
in_windows S [] w c a there closed is = absurd (not_in_none w there)
in_windows S (x ∷ ws) w c a there closed is =
    elim (contains_cases x ws w there) [
      | inr later ↦ Contains-append_left (delivered_in S ws) (option_to_list (delivered_by S x x.closed)) a (in_windows S ws w c a later closed is)
      | inl same ↦
          (let last : delivered_by S x x.closed ≡ Some a = ap (λ (y : WindowLog). delivered_by S y y.closed) same ∙ ap (delivered_by S w) closed ∙ is in
          Contains-append_right (delivered_in S ws) (option_to_list (delivered_by S x x.closed)) a (of_option (delivered_by S x x.closed) a last))
    ]

module _ (heards : SlotHeardLaw) (s : ScenarioParts) (clocks : ℕ → ℕ → ℕ) (air : List Entry) (lawful : IsLawfulRun s clocks air) where
  abbrev made : ℕ → List Delivery
  made v = (trail_in s clocks air v).made.deliveries

  abbrev all : List Delivery
  all = flat_map (delivered_in_air s clocks air) s.nodes

  abbrev logs : ℕ → List WindowLog
  logs v = (trail_in s clocks air v).made.windows

  of_windows : (v : ℕ) → knows s.nodes v ≡ true → made v ≡ delivered_in (setup_of s v) (logs v)
  of_windows v known = deliveries_of_windows s clocks air (run s clocks air lawful) v known (run_end s) (omega arith)

  -- no two of them are of one place
  made_apart : (v : ℕ) (b : Bool) → knows s.nodes v ≡ b → Climbs Apart (made v) × AllByRecursion (λ a. a.node ≡ v) (made v)
  made_apart v true known =
      let is = sym (of_windows v known) in (
        subst (Climbs Apart) is (node_apart s clocks air lawful v known),
        subst (AllByRecursion (λ (a : Delivery). a.node ≡ v)) is (node_places s clocks air lawful v known),
      )
  made_apart v false unknown =
      let none = sym (ap (λ (d : Device). d.made.deliveries) (at_rest_always s clocks air lawful v unknown (run_end s))) in
      (subst (Climbs Apart) none tt, subst (AllByRecursion (λ (a : Delivery). a.node ≡ v)) none tt)

  all_apart : Climbs Apart all
  all_apart =
      pieces_in_turn (λ (n m : NodeLine). n.node < m.node) Apart (λ (n : NodeLine) a. a.node ≡ n.node) (delivered_in_air s clocks air)
      (λ n. (made_apart n.node (knows s.nodes n.node) refl).1) (λ n. (made_apart n.node (knows s.nodes n.node) refl).0)
      (λ n m less a b first second. places_apart a b (λ same. let one = same.node in omega (arith, less, first, second, one)))
      s.nodes (pairs_in_turn (λ (n m : NodeLine). n.node < m.node) s.nodes lawful.sound.ascending)

  -- each of them is of the bus
  of_bus : (v : ℕ) (w : WindowLog) (c : Closing) (a : Delivery) → Contains (ids s.nodes) v → Contains (logs v) w → w.closed ≡ Some c
      → delivery_at_closing (setup_of s v) w ≡ Some a → Contains (bus_deliveries s) a
  of_bus v w c a named there closed is =
      let known = known_by s clocks air lawful v w there in
      let aligned : IsAligned s v w = cores_law heards s clocks air lawful v w known there in
      let round : IsRound s w.rank w.frame aligned.plan = aligned.round in
      let within = aligned.slot in
      let both = all_slots heards s clocks air lawful w.rank w.frame w.slot aligned.plan round within in
      let here : IsWindowOf s clocks air w.rank w.frame w.slot v w = record { there = there; frame = refl; channel = refl; slot = refl } in
      let same = delivered_same s clocks air lawful w.rank w.frame round.in_run w.slot aligned.plan both.0 both.1 v w here c closed in
      in_bus s w.rank w.frame w.slot v aligned.plan round within named a (same ∙ is)

  there : (a : Delivery) → Contains all a → Contains (bus_deliveries s) a
  there a within =
      let n = from_flat (delivered_in_air s clocks air) s.nodes a within in
      let known : knows s.nodes n.0.node ≡ true = any_of (λ (m : NodeLine). m.node == n.0.node) s.nodes n.0 n.1 (eq-eqb n.0.node n.0.node refl) in
      let of_ = from_windows (setup_of s n.0.node) (logs n.0.node) a (subst (λ (l : List Delivery). Contains l a) (of_windows n.0.node known) n.2) in
      of_bus n.0.node of_.window of_.closing a (map_contains (λ (m : NodeLine). m.node) s.nodes n.0 n.1) of_.there of_.closed of_.is

  -- and each of the bus is one of them
  no_delivery : (a : Delivery) → ◌≡◌ {A = Option Delivery} None (Some a) → ⊥
  no_delivery a is = cc

  module _ (rank f j v : ℕ) (p : Plan) (round : IsRound s rank f p) (within : j ≤ last_slot p)
      (a : Delivery) (n : NodeLine) (named : Contains s.nodes n) (at : n.node ≡ v)
      (is : delivery_in_slot s rank f p (state_at s f) j v ≡ Some a) where
    known : knows s.nodes v ≡ true
    known = any_of (λ (m : NodeLine). m.node == v) s.nodes n named (eq-eqb n.node v at)

    both : IsSlotStart s clocks air rank f p j × IsSlotHeard s clocks air rank f p j
    both = all_slots heards s clocks air lawful rank f j p round within

    with_window : (w : WindowLog) → IsWindowOf s clocks air rank f j v w → Contains (made v) a
    with_window w here =
        let c = closing_of s clocks air lawful rank f round.in_run j v w here in
        let same = delivered_same s clocks air lawful rank f round.in_run j p both.0 both.1 v w here c.closing c.is in
        subst (λ (l : List Delivery). Contains l a) (sym (of_windows v known))
        (in_windows (setup_of s v) (logs v) w c.closing a here.there c.is (sym same ∙ is))

    in_made : Contains (made v) a
    in_made =
        elim (look_up rank f j (logs v)) [
          | inl w ↦ with_window w.window (record { there = w.there; frame = w.frame; channel = w.channel; slot = w.slot })
          | inr none ↦ absurd (no_delivery a (
              sym (delivered_nowhere s clocks air lawful rank f round.in_run j p both.0 both.1 v known
              (λ w here. none w here.there here.frame here.channel here.slot)) ∙ is))
        ]

    in_all : Contains all a
    in_all = in_flat (delivered_in_air s clocks air) s.nodes n a named (subst (λ (u : ℕ). Contains (made u) a) (sym at) in_made)

  here : (a : Delivery) → Contains (bus_deliveries s) a → Contains all a
  here a within =
      let made = from_bus s a within in
      in_all made.rank made.frame made.slot made.line.node made.plan made.round made.within a made.line made.named refl made.delivered

  pub same_deliveries : deliveries_of s clocks air ≡ bus_deliveries s
  same_deliveries = sym (put_in_order all (bus_deliveries s) all_apart (bus_in_turn s lawful.sound) there here)

  -- each script line is given to a node as on the bus
  some_ticks : 0 < s.profile.frame
  some_ticks = let lasts = frame_lasts s lawful.sound in omega (arith, lasts)

  starts : All (IsStart s clocks air some_ticks) s.script
  starts k l below =
      let line = lawful.sound.script k l below in
      let within = line.in_run in
      frame_before heards s clocks air lawful (get_or s.script k l).frame (omega (arith, within)) (get_or s.script k l).node line.known

  pub same_drops : drops_of s clocks air ≡ bus_drops s
  same_drops = all_drops_same s clocks air some_ticks starts

module _ (heards : SlotHeardLaw) where
  pub deliveries_law : DeliveriesLaw
  deliveries_law s clocks air lawful = same_deliveries heards s clocks air lawful

  pub drops_law : DropsLaw
  drops_law s clocks air lawful = same_drops heards s clocks air lawful

  pub any_clocks_law : AnyClocksLaw
  any_clocks_law s c d a b one other = (
    deliveries_law s c a one ∙ sym (deliveries_law s d b other),
    drops_law s c a one ∙ sym (drops_law s d b other),
  )
