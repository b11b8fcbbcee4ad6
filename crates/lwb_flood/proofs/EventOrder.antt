-- The events of a node in order, and the earliest of several transmissions.
use Rattle.std.proofs.Common.{◌≡◌, ℕ, List, [], ◌∷◌, ◌++◌, ◌≤◌, true, inl, inr, refl, sym, ◌∙◌, ap, subst, arith, ◌==◌}
use Rattle.std.specs.Prelude.{Contains, ◌⊎◌, ◌≢◌}
use Rattle.std.proofs.lemmas.Bool.{cases_order, cases_lt, or_cases, eqb-true, false≢true}
use Rattle.glossy_relay.specs.FloodState.{FloodState}
use Rattle.bus_terms.specs.Flooding.{has}
use Rattle.radio_model.specs.declared.sending.Sending.{Sending}
use Rattle.radio_model.specs.Hearing.{Before}
use Rattle.air_log.specs.NodeEvents.{Event, sending_of_event, flood_after_event, flood_after_events, EventOccasion, event_occasions, EventsInOrder}
use Rattle.lwb_base.proofs.Elements.{not_in_none, contains_head, contains_tail, contains_cases, pairs_head, pairs_tail}

pub after_all_append : (s : FloodState) (es fs : List Event) → flood_after_events s (es ++ fs) ≡ flood_after_events (flood_after_events s es) fs
after_all_append s [] fs = refl
after_all_append s (e ∷ es) fs = after_all_append (flood_after_event s e) es fs

pub occasions_append : (s : FloodState) (es fs : List Event)
    → event_occasions s (es ++ fs) ≡ event_occasions s es ++ event_occasions (flood_after_events s es) fs
occasions_append s [] fs = refl
occasions_append s (e ∷ es) fs = ap (λ (l : List EventOccasion). record { before = s; event = e } ∷ l) (occasions_append (flood_after_event s e) es fs)

pub order_head : (e : Event) (es : List Event) → EventsInOrder (e ∷ es) → (later : Event) → Contains es later
    → ((sending_of_event e).end ≤ (sending_of_event later).end) × (e ≢ later)
order_head e es ordered = pairs_head (λ d e. ((sending_of_event d).end ≤ (sending_of_event e).end) × (d ≢ e)) e es ordered

pub order_tail : (e : Event) (es : List Event) → EventsInOrder (e ∷ es) → EventsInOrder es
order_tail e es ordered = pairs_tail (λ d e. ((sending_of_event d).end ≤ (sending_of_event e).end) × (d ≢ e)) e es ordered

pub in_order_rest : (es fs : List Event) → EventsInOrder (es ++ fs) → EventsInOrder fs
in_order_rest [] fs ordered = ordered
in_order_rest (e ∷ es) fs ordered = in_order_rest es fs (order_tail e (es ++ fs) ordered)

-- each event has its occasion
pub occasion_of : (s : FloodState) (es : List Event) (e : Event) → Contains es e → (t : FloodState) × Contains (event_occasions s es) (record {
  before = t;
  event = e;
})
occasion_of s [] e there = absurd (not_in_none e there)
occasion_of s (d ∷ es) e there =
    elim (contains_cases d es e there) [
      | inl is ↦ (
        s,
        subst (λ (x : Event). Contains (event_occasions s (d ∷ es)) (record { before = s; event = x })) is
            (contains_head (record { before = s; event = d }) (event_occasions (flood_after_event s d) es)),
      )
      | inr later ↦ (let o = occasion_of (flood_after_event s d) es e later in
          (o.0, contains_tail (record { before = s; event = d }) (event_occasions (flood_after_event s d) es) _ o.1))
    ]

before_itself : (x y : Sending) → x ≡ y → Before x y
before_itself x y is = subst (λ (z : Sending). Before x z) is (omega arith)

either_first : (x y : Sending) → Before x y ⊎ Before y x
either_first x y =
    elim (cases_order x.start y.start) [
      | inl same ↦ elim (cases_lt x.node y.node) [ inl less ↦ inl (omega arith) | inr more ↦ inr (omega arith) ]
      | inr other ↦ elim other [ inl less ↦ inl (omega arith) | inr more ↦ inr (omega arith) ]
    ]

then_before : (x y z : Sending) → Before x y → Before y z → Before x z
then_before x y z first second = omega arith

-- the first of all that are of a kind, of these nodes, where each node has one at most
module _ (P : Sending → Type 0) (once : (x y : Sending) → P x → P y → x.node ≡ y.node → x ≡ y)
    (decide : (u : ℕ) → ((x : Sending) × P x × (x.node ≡ u)) ⊎ ((x : Sending) → P x → x.node ≡ u → ⊥)) where
  abbrev IsFirst : List ℕ → Sending → Type 0
  IsFirst us x = (y : Sending) → P y → has us y.node ≡ true → Before x y

  pub earliest : (us : List ℕ) → ((x : Sending) × P x × IsFirst us x) ⊎ ((y : Sending) → P y → has us y.node ≡ true → ⊥)
  earliest [] = inr (λ y is there. false≢true there)
  earliest (u ∷ us) =
      elim (decide u) [
        | inl here ↦ elim (earliest us) [
          | inl found ↦ elim (either_first here.0 found.0) [
            | inl first ↦ inl (
              here.0,
              here.1,
              λ y is there. elim (or_cases (u == y.node) _ there) [
                | inl same ↦ before_itself here.0 y (once here.0 y here.1 is (here.2 ∙ eqb-true u y.node same))
                | inr later ↦ then_before here.0 found.0 y first (found.2 y is later)
              ],
            )
            | inr first ↦ inl (
              found.0,
              found.1,
              λ y is there. elim (or_cases (u == y.node) _ there) [
                | inl same ↦ subst (λ (z : Sending). Before found.0 z) (once here.0 y here.1 is (here.2 ∙ eqb-true u y.node same)) first
                | inr later ↦ found.2 y is later
              ],
            )
          ]
          | inr nobody ↦ inl (
            here.0,
            here.1,
            λ y is there. elim (or_cases (u == y.node) _ there) [
              | inl same ↦ before_itself here.0 y (once here.0 y here.1 is (here.2 ∙ eqb-true u y.node same))
              | inr later ↦ absurd (nobody y is later)
            ],
          )
        ]
        | inr nothing ↦ elim (earliest us) [
          | inl found ↦ inl (
            found.0,
            found.1,
            λ y is there. elim (or_cases (u == y.node) _ there) [
              | inl same ↦ absurd (nothing y is (sym (eqb-true u y.node same)))
              | inr later ↦ found.2 y is later
            ],
          )
          | inr nobody ↦ inr (λ y is there. elim (or_cases (u == y.node) _ there) [
            | inl same ↦ nothing y is (sym (eqb-true u y.node same))
            | inr later ↦ nobody y is later
          ])
        ]
      ]
