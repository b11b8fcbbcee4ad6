-- The lists of a flood's world after a change: its nodes, and its log with one entry more.
use Rattle.std.proofs.Common.{◌≡◌, ◌≢◌, ℕ, zero, suc, ◌≤◌, ◌<◌, List, [], ◌∷◌, ◌++◌, map, Option, Some, None, ◌==◌, inl, inr, refl, sym, ◌∙◌, ap}
use Rattle.std.proofs.Common.{subst, arith, length, get_or, eq-eqb}
use Rattle.std.specs.Prelude.{Contains, AllPairs, ◌⊎◌}
use Rattle.std.specs.List.{cons_option}
use Rattle.std.proofs.lemmas.Bool.{cond_both, cond-true, cond-false, eqb-true, eqb-false, ne_eqb}
use Rattle.std.proofs.lemmas.List.{append-nil}
use Rattle.std.proofs.lemmas.List.Elements.{filter_map-append, Contains-push_cases, Contains-append_left}
use Rattle.std.proofs.lemmas.List.Quantifiers.{all_pairs_push}
use Rattle.glossy_relay.specs.FloodState.{FloodState}
use Rattle.radio_model.specs.declared.sending.Sending.{Sending}
use Rattle.air_log.specs.declared.entry.Entry.{Entry}
use Rattle.air_log.specs.declared.entry.Entry.TheVariants.{Sent}
use Rattle.air_log.specs.Entries.{sending_in, hearing_in, tuning_in, sendings_of, hearings_of, tunings_of, heard_entry}
use Rattle.air_log.specs.NodeEvents.{Event, Heard, Ended, sending_of_event, EventsInOrder, flood_after_events, EventOccasion, event_occasions}
use Rattle.lwb_base.proofs.Elements.{not_in_none, contains_cases, map_contains, map_from, Distinct}
use Rattle.lwb_flood.specs.declared.member.Member.{Member}
use Rattle.lwb_flood.specs.FloodWorlds.{node_of_member, member_changed_at, with_change, flood_tuned_entry}
use Rattle.lwb_flood.proofs.EventOrder.{occasions_append}
use Rattle.lwb_flood.proofs.FloodSoFar.{event_in, events_in}

-- elements with distinct marks
pub one_of_mark : {X : Type 0} (g : X → ℕ) (xs : List X) → Distinct (map g xs) → (a b : X) → Contains xs a → Contains xs b → g a ≡ g b → a ≡ b
one_of_mark g [] distinct a b there_a there_b same = absurd (not_in_none a there_a)
one_of_mark g (x ∷ xs) distinct a b there_a there_b same =
    elim (contains_cases x xs a there_a) [
      | inl is_a ↦ elim (contains_cases x xs b there_b) [
        | inl is_b ↦ sym is_a ∙ is_b
        | inr in_b ↦ absurd (distinct.0 (subst (λ (n : ℕ). Contains (map g xs) n) (sym same ∙ sym (ap g is_a)) (map_contains g xs b in_b)))
      ]
      | inr in_a ↦ elim (contains_cases x xs b there_b) [
        | inl is_b ↦ absurd (distinct.0 (subst (λ (n : ℕ). Contains (map g xs) n) (same ∙ sym (ap g is_b)) (map_contains g xs a in_a)))
        | inr in_b ↦ one_of_mark g xs distinct.1 a b in_a in_b same
      ]
    ]

-- nodes after a change at one of them
module _ (v : ℕ) (change : Member → Member) (ms : List Member) where
  pub each_changed : (P : Member → Type 0) → ((m : Member) → Contains ms m → m.node ≡ v → P (change m))
      → ((m : Member) → Contains ms m → m.node ≢ v → P m) → (m : Member) → Contains (with_change v change ms) m → P m
  each_changed P here other m there =
      let was = map_from (member_changed_at v change) ms m there in
      subst P was.2 (cond_both (was.0.node == v) (change was.0) was.0 P (λ is. here was.0 was.1 (eqb-true was.0.node v is))
      (λ not. other was.0 was.1 (eqb-false was.0.node v not)))

  pub changed_there : (m : Member) → Contains ms m → m.node ≡ v → Contains (with_change v change ms) (change m)
  changed_there m there is = subst (λ (n : Member). Contains (with_change v change ms) n) (cond-true (m.node == v) (change m) m (eq-eqb m.node v is))
      (map_contains (member_changed_at v change) ms m there)

  pub same_there : (m : Member) → Contains ms m → m.node ≢ v → Contains (with_change v change ms) m
  same_there m there not = subst (λ (n : Member). Contains (with_change v change ms) n) (cond-false (m.node == v) (change m) m (ne_eqb m.node v not))
      (map_contains (member_changed_at v change) ms m there)

pub nodes_kept : (v : ℕ) (change : Member → Member) → ((m : Member) → (change m).node ≡ m.node) → (ms : List Member)
    → map node_of_member (with_change v change ms) ≡ map node_of_member ms
nodes_kept v change keeps [] = refl
nodes_kept v change keeps (m ∷ ms) =
    ap (λ (n : ℕ). n ∷ map node_of_member (with_change v change ms))
    (cond_both (m.node == v) (change m) m (λ (n : Member). n.node ≡ m.node) (λ _. keeps m) (λ _. refl))
    ∙ ap (λ (l : List ℕ). m.node ∷ l) (nodes_kept v change keeps ms)

-- a log with one entry more
module _ (air : List Entry) (x : Sending) where
  pub events_sent_own : (v : ℕ) → x.node ≡ v → events_in (air ++ Sent x ∷ []) v ≡ events_in air v ++ Ended x ∷ []
  events_sent_own v is =
      filter_map-append (event_in v) air (Sent x ∷ [])
      ∙ ap (λ (o : Option Event). events_in air v ++ cons_option o []) (cond-true (x.node == v) (Some (Ended x)) None (eq-eqb x.node v is))

  pub events_sent_other : (v : ℕ) → x.node ≢ v → events_in (air ++ Sent x ∷ []) v ≡ events_in air v
  events_sent_other v not =
      filter_map-append (event_in v) air (Sent x ∷ [])
      ∙ ap (λ (o : Option Event). events_in air v ++ cons_option o []) (cond-false (x.node == v) (Some (Ended x)) None (ne_eqb x.node v not))
      ∙ append-nil (events_in air v)

module _ (air : List Entry) (u : ℕ) (x : Sending) where
  pub events_heard_own : (v : ℕ) → u ≡ v → events_in (air ++ heard_entry u x ∷ []) v ≡ events_in air v ++ Heard x ∷ []
  events_heard_own v is =
      filter_map-append (event_in v) air (heard_entry u x ∷ [])
      ∙ ap (λ (o : Option Event). events_in air v ++ cons_option o []) (cond-true (u == v) (Some (Heard x)) None (eq-eqb u v is))

  pub events_heard_other : (v : ℕ) → u ≢ v → events_in (air ++ heard_entry u x ∷ []) v ≡ events_in air v
  events_heard_other v not =
      filter_map-append (event_in v) air (heard_entry u x ∷ [])
      ∙ ap (λ (o : Option Event). events_in air v ++ cons_option o []) (cond-false (u == v) (Some (Heard x)) None (ne_eqb u v not))
      ∙ append-nil (events_in air v)

module _ (air : List Entry) (u t : ℕ) where
  pub sendings_tuned : sendings_of (air ++ flood_tuned_entry u t ∷ []) ≡ sendings_of air
  sendings_tuned = filter_map-append sending_in air (flood_tuned_entry u t ∷ []) ∙ append-nil (sendings_of air)

  pub hearings_tuned : hearings_of (air ++ flood_tuned_entry u t ∷ []) ≡ hearings_of air
  hearings_tuned = filter_map-append hearing_in air (flood_tuned_entry u t ∷ []) ∙ append-nil (hearings_of air)

  pub tunings_tuned : tunings_of (air ++ flood_tuned_entry u t ∷ []) ≡ tunings_of air ++ record { rank = 0; node = u; start = 1344000000; end = t } ∷ []
  tunings_tuned = filter_map-append tuning_in air (flood_tuned_entry u t ∷ [])

  pub events_tuned : (v : ℕ) → events_in (air ++ flood_tuned_entry u t ∷ []) v ≡ events_in air v
  events_tuned v = filter_map-append (event_in v) air (flood_tuned_entry u t ∷ []) ∙ append-nil (events_in air v)

-- an event more
pub occasion_more : (s : FloodState) (es : List Event) (e : Event)
    → event_occasions s (es ++ e ∷ []) ≡ event_occasions s es ++ record { before = flood_after_events s es; event = e } ∷ []
occasion_more s es e = occasions_append s es (e ∷ [])

pub occasion_kept : (s : FloodState) (es fs : List Event) (o : EventOccasion) → Contains (event_occasions s es) o → Contains (event_occasions s (es ++ fs)) o
occasion_kept s es fs o there = subst (λ (l : List EventOccasion). Contains l o) (sym (occasions_append s es fs))
    (Contains-append_left (event_occasions s es) (event_occasions (flood_after_events s es) fs) o there)

pub occasion_cases : (s : FloodState) (es : List Event) (e : Event) (o : EventOccasion) → Contains (event_occasions s (es ++ e ∷ [])) o
    → Contains (event_occasions s es) o ⊎ (record { before = flood_after_events s es; event = e } ≡ o)
occasion_cases s es e o there = Contains-push_cases (event_occasions s es) (record { before = flood_after_events s es; event = e }) o
    (subst (λ (l : List EventOccasion). Contains l o) (occasion_more s es e) there)

-- pairs with one element more
pub pairs_push : {X : Type 0} (R : X → X → Type 0) (xs : List X) (y : X) → AllPairs R xs → ((x : X) → Contains xs x → R x y) → AllPairs R (xs ++ y ∷ [])
pairs_push R xs y all last = all_pairs_push R xs y all (λ k d less. last (get_or xs k d) (k, less, same xs k d (get_or xs k d) less))
  where
    same : {Y : Type 0} (ys : List Y) (k : ℕ) (d e : Y) → k < length ys → get_or ys k e ≡ get_or ys k d
    same [] k d e less = absurd (omega arith)
    same (y ∷ ys) zero d e less = refl
    same (y ∷ ys) (suc k) d e less = same ys k d e (omega arith)

pub in_order_push : (es : List Event) (e : Event) → EventsInOrder es
    → ((d : Event) → Contains es d → ((sending_of_event d).end ≤ (sending_of_event e).end) × (d ≢ e)) → EventsInOrder (es ++ e ∷ [])
in_order_push es e order last = pairs_push (λ d e. ((sending_of_event d).end ≤ (sending_of_event e).end) × (d ≢ e)) es e order last
