-- The six nodes are never answered: in each frame the host has no stream and acknowledges nothing, and nothing is delivered.
use Rattle.std.proofs.Common.{◌≡◌, ◌≤◌, ◌+◌, ◌-◌, ◌==◌, ◌&&◌, ℕ, List, [], ◌∷◌, ◌++◌, Bool, true, false, inl, inr, Option, Some, None, filter_map, flat_map}
use Rattle.std.proofs.Common.{if◌then◌else◌, length, nat_le, nat_lt, option_and_then, option_map, refl, sym, ◌∙◌, ap, subst, arith}
use Rattle.bus_terms.proofs.NumbersSaid.{said_by}
use Rattle.law_times.proofs.Words.{option_map_or, and_parts, cases_eq, cases_lt, eq-eqb, false≢true, lt-leb, ne_eqb, IsOverScenario, ScenarioParts, Delivery}
use Rattle.law_times.proofs.Words.{Part, over_own_lines}
use Rattle.law_times.proofs.Words.{Opening, DataSlot, Contention, Closing, Core, Closed, Data, DataOf, Message, Opened, RequestOf, ScheduleOf, delivery_of}
use Rattle.law_times.proofs.Words.{part_of, State, StateOff, StateOn, last_slot, bus_deliveries, frames_of, state_at, ids, accepted_at, before_slot}
use Rattle.law_times.proofs.Words.{closed_slot_of, delivery_in_slot, round_deliveries, slot_at, slot_deliveries, slots_of, setup_of, heard_from, HasNoStream}
use Rattle.law_times.proofs.Words.{NobodyIsAnswered, SixAreNeverAnswered, six_nodes}
use Rattle.law_times.proofs.ComputedTests.{each_up_to}
use Rattle.law_times.proofs.StarvedNodes.{Starve, hosted, no_round, starve}
use Rattle.law_times.proofs.WorkedSix.{bare_at_first, bare_plan, host_core, is_bare, none_at_first, six_800}

none_of : {A : Type 0} (xs : List A) → (length xs == 0) ≡ true → xs ≡ []
none_of [] is = refl
none_of (x ∷ xs) is = absurd (false≢true (sym (ne_eqb (length (x ∷ xs)) 0 (λ none. absurd (omega (arith, none)))) ∙ is))

flat_none : {A B : Type 0} (g : A → List B) (xs : List A) → ((x : A) → g x ≡ []) → flat_map g xs ≡ []
flat_none g [] none = refl
flat_none g (x ∷ xs) none = ap (λ (l : List _). l ++ flat_map g xs) (none x) ∙ flat_none g xs none

filter_none : {A B : Type 0} (g : A → Option B) (xs : List A) → ((x : A) → g x ≡ None) → filter_map g xs ≡ []
filter_none g [] none = refl
filter_none g (x ∷ xs) none = rw (none x) (filter_none g xs none)

-- a round without data slots delivers nothing
no_data : (j owner : ℕ) → part_of bare_plan j ≡ DataSlot owner → ⊥
no_data j owner is = elim (cases_eq j 0) [
  | inl first ↦ opening_is _ (j == 0) (eq-eqb j 0 first) is
  | inr other ↦ later_is _ _ (j == 0) (ne_eqb j 0 other) (nat_le j 0) (lt-leb j 0 (omega (arith, other))) (nat_lt j (last_slot bare_plan)) is
]
  where
    opening_is : (q : Part) (b : Bool) → b ≡ true → (if b then Opening else q) ≡ DataSlot owner → ⊥
    opening_is q true at is = cc
    opening_is q false at is = false≢true at

    later_is : (i n : ℕ) (a : Bool) → a ≡ false → (b : Bool) → b ≡ false → (c : Bool)
        → (if a then Opening else if b then DataSlot i else if c then Contention n else Closing) ≡ DataSlot owner → ⊥
    later_is i n true first b second c is = false≢true (sym first)
    later_is i n false first true second c is = false≢true (sym second)
    later_is i n false first false second true is = cc
    later_is i n false first false second false is = cc

closed_none : (s : ScenarioParts) (f : ℕ) (part : Part) (v : ℕ) (w : Option Opened) (heard : Option Message) (x : State)
    → ((d : Data) → heard ≡ Some (DataOf d) → ⊥) → option_and_then (λ (c : Closed). c.delivered) (closed_slot_of s f part v w heard x) ≡ None
closed_none s f part v (Some o) None x never = refl
closed_none s f part v (Some o) (Some (DataOf d)) x never = absurd (never d refl)
closed_none s f part v (Some o) (Some (RequestOf a)) x never = refl
closed_none s f part v (Some o) (Some (ScheduleOf y)) x never = refl
closed_none s f part v None None x never = refl
closed_none s f part v None (Some m) (StateOff boots) never = refl
closed_none s f part v None (Some (DataOf d)) (StateOn c) never = absurd (never d refl)
closed_none s f part v None (Some (RequestOf a)) (StateOn c) never = refl
closed_none s f part v None (Some (ScheduleOf y)) (StateOn c) never = refl

slot_none : (s : ScenarioParts) (f j v : ℕ) → delivery_in_slot s 0 f bare_plan (state_at s f) j v ≡ None
slot_none s f j v =
    ap (λ (d : Option Data). option_map (delivery_of v f 0 j) d)
    (closed_none s f (part_of bare_plan j) v ((slot_at s 0 f bare_plan (state_at s f) j).window v) (accepted_at (slot_at s 0 f bare_plan (state_at s f) j) v)
    (before_slot s 0 f bare_plan (state_at s f) j v)
    (λ d said. (let from = heard_from s 0 f bare_plan (state_at s f) j (part_of bare_plan j) refl v (DataOf d) said in
    let slot = (said_by (setup_of s from.0) f (part_of bare_plan j) from.1 d from.4).1 in
    no_data j slot.0 slot.1)))

module _ (frames : ℕ) (accepted : IsOverScenario (six_nodes frames)) where
  abbrev s : ScenarioParts
  s = six_nodes frames

  later : (f : ℕ) → 30 ≤ f → Starve frames accepted f
  later f after = (let n : ℕ = f - 30 in subst (Starve frames accepted) (let same : n + 30 ≡ f = omega (arith, after) in same) (starve frames accepted n))

  -- the host
  bare_core : (c : Core) → is_bare frames (StateOn c) ≡ true → HasNoStream c
  bare_core c is =
      let first = and_parts ((length c.plan.acks == 0) && (length c.plan.owners == 0)) (length c.table.entries == 0) is in
      let both = and_parts (length c.plan.acks == 0) (length c.plan.owners == 0) first.0 in
      record { acks = none_of c.plan.acks both.0; owners = none_of c.plan.owners both.1; entries = none_of c.table.entries first.1 }

  host_bare : (f : ℕ) (c : Core) → state_at s f 1 ≡ StateOn c → HasNoStream c
  host_bare f c on = elim (cases_lt f 30) [
    | inl early ↦
        bare_core c (ap (is_bare frames) (sym on) ∙ each_up_to (λ f. is_bare frames (state_at s f 1)) 30 (bare_at_first frames) f (omega (arith, early)))
    | inr after ↦
        (let is = later f after in
        let same : StateOn (host_core is.due) ≡ StateOn c = sym is.host ∙ on in
        let core : host_core is.due ≡ c = cc in
        subst HasNoStream core (record { acks = refl; owners = refl; entries = refl }))
  ]

  -- a frame
  frame_none : (f : ℕ) → round_deliveries s 0 f (state_at s f) ≡ []
  frame_none f = elim (cases_lt f 30) [
    | inl early ↦
        none_of (round_deliveries s 0 f (state_at s f))
        (each_up_to (λ f. length (round_deliveries s 0 f (state_at s f)) == 0) 30 (none_at_first frames) f (omega (arith, early)))
    | inr after ↦ in_round after (later f after)
  ]
    where
      in_round : 30 ≤ f → Starve frames accepted f → round_deliveries s 0 f (state_at s f) ≡ []
      in_round after is = elim (cases_eq is.due f) [
        | inl now ↦
            ap (λ o. option_map_or (λ p. flat_map (slot_deliveries s 0 f p (state_at s f)) (slots_of p)) o []) (hosted frames accepted f after is now).plan
            ∙ flat_none (slot_deliveries s 0 f bare_plan (state_at s f)) (slots_of bare_plan)
            (λ j. filter_none (delivery_in_slot s 0 f bare_plan (state_at s f) j) (ids s.nodes) (slot_none s f j))
        | inr other ↦
            ap (λ o. option_map_or (λ p. flat_map (slot_deliveries s 0 f p (state_at s f)) (slots_of p)) o [])
            (no_round frames accepted f is (let range = is.range in omega (arith, range, other)))
      ]

  delivers_none : bus_deliveries s ≡ []
  delivers_none =
      flat_none (λ f. flat_map (λ rank. round_deliveries s rank f (state_at s f)) (0 ∷ [])) (frames_of s)
      (λ f. ap (λ (l : List Delivery). l ++ []) (frame_none f))

pub never_answered : SixAreNeverAnswered
never_answered frames accepted = record { host = host_bare frames accepted; delivers = delivers_none frames accepted }

-- for example in 800 frames
in_800 : NobodyIsAnswered 800
in_800 = never_answered 800 (over_own_lines (six_nodes 800) six_800)
