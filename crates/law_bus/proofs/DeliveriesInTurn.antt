-- The deliveries of the bus are by frame, rank, slot and node, and no two deliveries of a run are of one place.
use Rattle.std.proofs.Common.{◌≡◌, ℕ, ◌+◌, ◌<◌, List, [], ◌∷◌, true, Some, None, Option, option_map, option_to_list, inl, inr, Contains, flat_map, length, refl}
use Rattle.std.proofs.Common.{sym, ◌∙◌, ap, subst, arith}
use Rattle.std.specs.Option.{option_map_or}
use Rattle.std.specs.List.{AllByRecursion}
use Rattle.std.proofs.lemmas.List.Elements.{Contains-append_cases}
use Rattle.lwb_base.specs.Messages.{Plan}
use Rattle.bus_rules.specs.declared.delivery.Delivery.{Delivery}
use Rattle.bus_rules.specs.Cores.{Setup}
use Rattle.bus_rules.specs.Plans.{last_slot}
use Rattle.bus_rules.specs.Slots.{Data, closed_slot, delivery_of}
use Rattle.node_core.specs.Rows.{accepted_in}
use Rattle.scenario_text.specs.ScenarioParts.{ScenarioParts}
use Rattle.scenario_text.specs.ScenarioFacts.{IsSoundScenario}
use Rattle.scenario_text.specs.FloodParts.{knows}
use Rattle.scenario_text.specs.FloodDrafts.{Climbs}
use Rattle.air_log.specs.declared.entry.Entry.{Entry}
use Rattle.air_log.specs.Lawful.{trail_in}
use Rattle.scenario_text.specs.Setups.{setup_of}
use Rattle.air_log.specs.Trails.{run_end}
use Rattle.air_log.specs.WindowLogs.{WindowLog, Closing}
use Rattle.lwb_base.proofs.Elements.{contains_cases, contains_head, contains_tail, not_in_none}
use Rattle.lwb_base.proofs.Lists.{each_more}
use Rattle.law_windows.specs.OpenWindows.{CloseBeforeNext, HasClosedBy}
use Rattle.law_windows.specs.WindowDeliveries.{delivery_at_closing, delivered_by, delivered_in}
use Rattle.law_windows.proofs.WindowFacts.{closes_later, one_a_slot, windows_apart}
use Rattle.bus_terms.specs.FloodOfText.{ids}
use Rattle.bus_terms.specs.Rounds.{delivery_in_slot, round_deliveries, round_plan, slot_deliveries, slots_of}
use Rattle.bus_terms.specs.Bus.{bus_deliveries, frames_of, ranks_of, state_at}
use Rattle.bus_terms.proofs.ListsInTurn.{each_given, each_of_pieces, given_in_turn, pairs_in_turn, pieces_in_turn, range_in_turn}
use Rattle.bus_terms.proofs.ListsInTurn.{turn_append}
use Rattle.bus_terms.proofs.ReceivedInRounds.{ids_rise}
use Rattle.law_terms.specs.LawfulRuns.{IsLawfulRun}
use Rattle.air_log.proofs.DeliveryOrder.{Before, by_frame, by_node, by_rank, by_slot}
use Rattle.law_bus.proofs.DeliveriesApart.{Apart, places_apart}
use Rattle.law_bus.proofs.RunsOfLogs.{run}

-- where a delivery comes from
pub record IsOf (rank f j v : ℕ) (a : Delivery) : Type 0 where
  pub frame : a.frame ≡ f
  pub rank_is : a.rank ≡ rank
  pub slot : a.slot ≡ j
  pub node : a.node ≡ v

pub placed_so : (rank f j v : ℕ) (d : Option Data) (a : Delivery) → option_map (delivery_of v f rank j) d ≡ Some a → IsOf rank f j v a
placed_so rank f j v None a is = absurd (none is)
  where
    none : ◌≡◌ {A = Option Delivery} None (Some a) → ⊥
    none is = cc
placed_so rank f j v (Some d) a is = subst (IsOf rank f j v) (same is) (record { frame = refl; rank_is = refl; slot = refl; node = refl })
  where
    same : ◌≡◌ {A = Option Delivery} (Some (delivery_of v f rank j d)) (Some a) → delivery_of v f rank j d ≡ a
    same is = cc

-- the lists of the bus, from the inside out
module _ (s : ScenarioParts) (sound : IsSoundScenario s) where
  abbrev of_slot : ℕ → ℕ → Plan → ℕ → List Delivery
  of_slot rank f p j = slot_deliveries s rank f p (state_at s f) j

  abbrev AtSlot : ℕ → ℕ → ℕ → Delivery → Type 0
  AtSlot rank f j a = (a.frame ≡ f) × (a.rank ≡ rank) × (a.slot ≡ j)

  abbrev AtRank : ℕ → ℕ → Delivery → Type 0
  AtRank rank f a = (a.frame ≡ f) × (a.rank ≡ rank)

  abbrev AtFrame : ℕ → Delivery → Type 0
  AtFrame f a = a.frame ≡ f

  in_slot : (rank f : ℕ) (p : Plan) (j : ℕ) → Climbs Before (of_slot rank f p j)
  in_slot rank f p j =
      given_in_turn (λ u v. u < v) Before (delivery_in_slot s rank f p (state_at s f) j) by_nodes (ids s.nodes)
      (pairs_in_turn (λ u v. u < v) (ids s.nodes) (ids_rise s.nodes sound.ascending))
    where
      by_nodes : (u v : ℕ) → u < v → (a b : Delivery) → delivery_in_slot s rank f p (state_at s f) j u ≡ Some a
          → delivery_in_slot s rank f p (state_at s f) j v ≡ Some b → Before a b
      by_nodes u v less a b first second =
          let one = placed_so rank f j u _ a first in
          let two = placed_so rank f j v _ b second in
          let here = one.node in
          let there = two.node in
          by_node a b (one.frame ∙ sym two.frame) (one.rank_is ∙ sym two.rank_is) (one.slot ∙ sym two.slot) (omega (arith, here, there, less))

  each_in_slot : (rank f : ℕ) (p : Plan) (j : ℕ) → AllByRecursion (AtSlot rank f j) (of_slot rank f p j)
  each_in_slot rank f p j =
      each_given (AtSlot rank f j) (delivery_in_slot s rank f p (state_at s f) j)
      (λ v a is. let at = placed_so rank f j v _ a is in (at.frame, at.rank_is, at.slot)) (ids s.nodes)

  in_round : (rank f : ℕ) (p : Option Plan) → Climbs Before (option_map_or (λ p. flat_map (slot_deliveries s rank f p (state_at s f)) (slots_of p)) p [])
  in_round rank f None = tt
  in_round rank f (Some p) =
      pieces_in_turn (λ j k. j < k) Before (AtSlot rank f) (of_slot rank f p) (each_in_slot rank f p) (in_slot rank f p)
      (λ j k less a b first second. by_slot a b (first.0 ∙ sym second.0) (first.1 ∙ sym second.1)
      (let one = first.2 in let two = second.2 in omega (arith, one, two, less)))
      (slots_of p) (range_in_turn 0 (last_slot p + 1))

  each_in_round : (rank f : ℕ) (p : Option Plan) → AllByRecursion (AtRank rank f)
      (option_map_or (λ p. flat_map (slot_deliveries s rank f p (state_at s f)) (slots_of p)) p [])
  each_in_round rank f None = tt
  each_in_round rank f (Some p) =
      each_of_pieces (AtRank rank f) (of_slot rank f p) (λ j. each_more (AtSlot rank f j) (AtRank rank f)
      (λ a at. (at.0, at.1)) _ (each_in_slot rank f p j)) (slots_of p)

  abbrev of_round : ℕ → ℕ → List Delivery
  of_round rank f = round_deliveries s rank f (state_at s f)

  in_frame : (f : ℕ) → Climbs Before (flat_map (λ rank. of_round rank f) (ranks_of s))
  in_frame f =
      pieces_in_turn (λ r q. r < q) Before (λ rank. AtRank rank f) (λ rank. of_round rank f)
      (λ rank. each_in_round rank f (round_plan s rank f (state_at s f))) (λ rank. in_round rank f (round_plan s rank f (state_at s f)))
      (λ r q less a b first second. by_rank a b (first.0 ∙ sym second.0) (let one = first.1 in let two = second.1 in omega (arith, one, two, less)))
      (ranks_of s) (range_in_turn 0 (length s.hosts))

  each_in_frame : (f : ℕ) → AllByRecursion (AtFrame f) (flat_map (λ rank. of_round rank f) (ranks_of s))
  each_in_frame f =
      each_of_pieces (AtFrame f) (λ rank. of_round rank f) (λ rank. each_more (AtRank rank f) (AtFrame f)
      (λ a at. at.0) _ (each_in_round rank f (round_plan s rank f (state_at s f)))) (ranks_of s)

  pub bus_in_turn : Climbs Before (bus_deliveries s)
  bus_in_turn =
      pieces_in_turn (λ f g. f < g) Before AtFrame (λ f. flat_map (λ rank. of_round rank f) (ranks_of s)) each_in_frame in_frame
      (λ f g less a b first second. by_frame a b (omega (arith, first, second, less))) (frames_of s) (range_in_turn 0 s.frames)

-- what is known of each element
all_so : {X : Type 0} (P : X → Type 0) (xs : List X) → ((x : X) → Contains xs x → P x) → AllByRecursion P xs
all_so P [] each = tt
all_so P (x ∷ xs) each = (each x (contains_head x xs), all_so P xs (λ y there. each y (contains_tail x xs y there)))

-- a delivery of a node is of one of its windows that have closed
pub record OfWindow (S : Setup) (ws : List WindowLog) (a : Delivery) : Type 0 where
  pub window : WindowLog
  pub there : Contains ws window
  pub closing : Closing
  pub closed : window.closed ≡ Some closing
  pub is : delivery_at_closing S window ≡ Some a

pub in_option : (S : Setup) (w : WindowLog) (o : Option Closing) (a : Delivery) → w.closed ≡ o → Contains (option_to_list (delivered_by S w o)) a
    → (c : Closing) × (w.closed ≡ Some c) × (delivery_at_closing S w ≡ Some a)
in_option S w None a is there = absurd (not_in_none a there)
in_option S w (Some c) a is there = (c, is, by_value (delivery_at_closing S w) refl there)
  where
    by_value : (d : Option Delivery) → delivery_at_closing S w ≡ d → Contains (option_to_list d) a → delivery_at_closing S w ≡ Some a
    by_value None at there = absurd (not_in_none a there)
    by_value (Some d) at there = at ∙ elim (contains_cases d [] a there) [
      | inl same ↦ ap
          (λ (x : Delivery). Some x) same
      | inr none ↦ absurd (not_in_none a none)
    ]

pub from_windows : (S : Setup) (ws : List WindowLog) (a : Delivery) → Contains (delivered_in S ws) a → OfWindow S ws a
from_windows S [] a there = absurd (not_in_none a there)
from_windows S (w ∷ ws) a there =
    elim (Contains-append_cases (delivered_in S ws) (option_to_list (delivered_by S w w.closed)) a there) [
      | inl before ↦
          (let of_ = from_windows S ws a before in
          record { window = of_.window; there = contains_tail w ws of_.window of_.there; closing = of_.closing; closed = of_.closed; is = of_.is })
      | inr last ↦
          (let of_ = in_option S w w.closed a refl last in
          record { window = w; there = contains_head w ws; closing = of_.0; closed = of_.1; is = of_.2 })
    ]

-- windows of different slots
abbrev pub OtherSlot : WindowLog → WindowLog → Type 0
OtherSlot x y = x.frame ≡ y.frame → x.rank ≡ y.rank → x.slot ≡ y.slot → ⊥

window_place : (S : Setup) (w : WindowLog) (a : Delivery) → delivery_at_closing S w ≡ Some a → IsOf w.rank w.frame w.slot S.id a
window_place S w a is =
    placed_so w.rank w.frame w.slot S.id (closed_slot S w.frame w.last.part w.last.flood.initiated w.after.core (accepted_in w.last)).delivered a is

windows_deliver_apart : (S : Setup) (ws : List WindowLog) → Climbs OtherSlot ws → Climbs Apart (delivered_in S ws)
windows_deliver_apart S [] other = tt
windows_deliver_apart S (w ∷ ws) other =
    turn_append Apart (delivered_in S ws) (option_to_list (delivered_by S w w.closed))
    (windows_deliver_apart S ws other.1) (of_last (delivered_by S w w.closed))
    (all_so _ (delivered_in S ws) (λ a there. all_so (Apart a) (option_to_list (delivered_by S w w.closed)) (λ b last.
    let first = from_windows S ws a there in
    let second = in_option S w w.closed b refl last in
    let one = window_place S first.window a first.is in
    let two = window_place S w b second.2 in
    places_apart a b (λ same. other_from ws other.0 first.window first.there
    (sym two.frame ∙ sym same.frame ∙ one.frame) (sym two.rank_is ∙ sym same.rank ∙ one.rank_is) (sym two.slot ∙ sym same.slot ∙ one.slot)))))
  where
    of_last : (d : Option Delivery) → Climbs Apart (option_to_list d)
    of_last None = tt
    of_last (Some d) = (tt, tt)

    other_from : (xs : List WindowLog) → AllByRecursion (OtherSlot w) xs → (y : WindowLog) → Contains xs y → OtherSlot w y
    other_from [] all y there = absurd (not_in_none y there)
    other_from (x ∷ xs) all y there = elim (contains_cases x xs y there) [ inl same ↦ subst (OtherSlot w) same all.0 | inr later ↦ other_from xs all.1 y later ]

module _ (s : ScenarioParts) (clocks : ℕ → ℕ → ℕ) (air : List Entry) (lawful : IsLawfulRun s clocks air) where
  module _ (v : ℕ) (known : knows s.nodes v ≡ true) where
    abbrev logs : List WindowLog
    logs = (trail_in s clocks air v).made.windows

    others : (ws : List WindowLog) → ((x : WindowLog) → Contains ws x → Contains logs x) → CloseBeforeNext ws → Climbs OtherSlot ws
    others [] all apart = tt
    others (x ∷ xs) all apart = (
      all_so (OtherSlot x) xs (λ y there frame rank slot.
          let here : Contains logs x = all x (contains_head x xs) in
          let same : x ≡ y = one_a_slot s clocks air (run s clocks air lawful) v known
          (run_end s) (omega arith) x y here (all y (contains_tail x xs y there))
          (record { rank = rank; frame = frame; slot = slot }) in
          closes_later s clocks air (run s clocks air lawful) v known (run_end s) (omega arith) x here
          (subst (λ (z : WindowLog). HasClosedBy x.opened z) (sym same) (apart.0 y there))),
      others xs (λ y there. all y (contains_tail x xs y there)) apart.1,
    )

    pub node_apart : Climbs Apart (delivered_in (setup_of s v) logs)
    node_apart =
        windows_deliver_apart (setup_of s v) logs
        (others logs (λ x there. there) (windows_apart s clocks air (run s clocks air lawful) v known (run_end s) (omega arith)))

    pub node_places : AllByRecursion (λ a. a.node ≡ v) (delivered_in (setup_of s v) logs)
    node_places =
        all_so (λ (a : Delivery). a.node ≡ v) (delivered_in (setup_of s v) logs)
        (λ a there. let of_ = from_windows (setup_of s v) logs a there in (window_place (setup_of s v) of_.window a of_.is).node)
