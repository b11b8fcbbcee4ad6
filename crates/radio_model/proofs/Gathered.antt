-- What stations bring to nodes, gathered bit by bit: of one station more, and of all but those from which nothing comes.
use Rattle.std.proofs.Common.{◌≡◌, ◌≢◌, ℕ, ◌<◌, ◌≤◌, ◌-◌, ◌⊎◌, inl, inr, max, min, [], List, length, get_or, Bool, true, false, not, ◌+◌}
use Rattle.std.proofs.Common.{bit_and, bit_or, All, refl, sym, ◌∙◌, ap, subst, arith}
use Rattle.std.proofs.lemmas.Bool.{cases_eq, both_ways, false_from_ne_true}
use Rattle.std.proofs.lemmas.Nat.Bits.{bit_at_or, bit_at_and, bit_at-lt}
use Rattle.std.specs.Int.{bit_at}
use Rattle.std.specs.List.{list_any}
use Rattle.std.proofs.lemmas.List.{get_or_default}
use Rattle.lwb_base.specs.declared.limits.TheConstants.{MOST_NODES}
use Rattle.lwb_base.specs.Profile.{Numbers}
use Rattle.link_trace.specs.Masks.{HasAll}
use Rattle.link_trace.specs.Passes.{Lines, passes}
use Rattle.link_trace.proofs.MaskBits.{set_among, unset_among}
use Rattle.radio_model.specs.Marks.{AreMarks, AreAlikeTo, comes_close, no_mark}
use Rattle.radio_model.specs.Meetings.{rivals_in, rivals_to, differs, spoils, passes_at, key_of, IsCrowd, IsInOneFrame, IsPlaceOf, both_crowds}
use Rattle.radio_model.specs.Meetings.{IsFrom, AddsTo, HasBitsOf, TellsAt, IsNear, AreThose}
use Rattle.radio_model.specs.Recent.{AreAmong}
use Rattle.radio_model.specs.declared.crowd.Crowd.{Crowd}
use Rattle.radio_model.specs.declared.mark.Mark.{Mark}
use Rattle.radio_model.specs.declared.mark.Origin.{Origin}
use Rattle.radio_model.specs.declared.rivals.Key.{Key}
use Rattle.radio_model.specs.declared.rivals.Rival.{Rival}
use Rattle.radio_model.specs.declared.sending.Sending.{Sending}
use Rattle.radio_model.specs.declared.station.Station.{Station}
use Rattle.lwb_base.proofs.Elements.{any_of, some_of, in_flat, from_flat}
use Rattle.radio_model.proofs.Close.{close_same, close_harmless}
use Rattle.radio_model.proofs.RestOfPlaces.{InOrder, bit_cases}

either_one : (a b : ℕ) → a < 2 → b < 2 → max a b ≡ 1 → (a ≡ 1) ⊎ (b ≡ 1)
either_one a b a_small b_small is = elim (bit_cases a a_small) [ inl none ↦ inr (omega (arith, is, none)) | inr one ↦ inl one ]

neither : (a b : ℕ) → max a b ≡ 0 → (a ≡ 0) × (b ≡ 0)
neither a b is = (omega (arith, is), omega (arith, is))

pub either_bit : (a b i : ℕ) → bit_at (bit_or a b) i ≡ 1 → (bit_at a i ≡ 1) ⊎ (bit_at b i ≡ 1)
either_bit a b i is = either_one (bit_at a i) (bit_at b i) (bit_at-lt a i) (bit_at-lt b i) (sym (bit_at_or a b i) ∙ is)

pub neither_bit : (a b i : ℕ) → bit_at (bit_or a b) i ≡ 0 → (bit_at a i ≡ 0) × (bit_at b i ≡ 0)
neither_bit a b i is = neither (bit_at a i) (bit_at b i) (sym (bit_at_or a b i) ∙ is)

-- a bit that both masks have
pub both_bits : (a b i : ℕ) → bit_at a i ≡ 1 → bit_at b i ≡ 1 → bit_at (bit_and a b) i ≡ 1
both_bits a b i one two = bit_at_and a b i ∙ omega (arith, one, two)

pub first_bit : (a b i : ℕ) → bit_at (bit_and a b) i ≡ 1 → bit_at a i ≡ 1
first_bit a b i is =
    elim (bit_cases (bit_at a i) (bit_at-lt a i)) [
      | inl none ↦ absurd (omega (arith, bit_at_and a b i, is, none))
      | inr one ↦ one
    ]

module _ (lines : Lines) (nodes : List ℕ) (p : Numbers) (x : Sending) (sts : List Station) where
  abbrev all : List Rival
  all = rivals_to p x sts

  pub from_one : (k : ℕ) (st : Station) (test : Rival → Bool) → k < length sts → st ≡ get_or sts k st → list_any test (rivals_in p x st) ≡ true
      → list_any test all ≡ true
  from_one k st test below at some =
      let r = some_of test (rivals_in p x st) some in
      any_of test all r.0 (in_flat (rivals_in p x) sts st r.0 (k, below, sym at) r.1) r.2

  none_in : (test : Rival → Bool) → ((k : ℕ) (d : Station) → k < length sts → list_any test (rivals_in p x (get_or sts k d)) ≡ false)
      → list_any test all ≡ false
  none_in test none =
      false_from_ne_true (list_any test all) (λ some.
      let r = some_of test all some in
      let st = from_flat (rivals_in p x) sts r.0 r.1 in
      both_ways (list_any test (rivals_in p x st.0))
      (ap (λ (s : Station). list_any test (rivals_in p x s)) (sym st.1.2) ∙ none st.1.0 st.0 st.1.1) (any_of test (rivals_in p x st.0) r.0 st.2 r.2))

  -- all stations, one by one
  pub tells_all : (i : ℕ) (c : Crowd) → ((k : ℕ) (d : Station) → k < length sts → HasBitsOf lines nodes (rivals_in p x (get_or sts k d)) i c)
      → HasBitsOf lines nodes all i c
  tells_all i c each = record {
    mixed = λ clean none. none_in (differs lines (get_or nodes i 0)) (λ k d below. (each k d below).mixed clean none);
    spoiled = λ none. none_in (spoils lines (get_or nodes i 0)) (λ k d below. (each k d below).spoiled none);
  }

  pub adds_none : (c : Crowd) → AddsTo c c
  adds_none c = record { mixed = λ i none. none; spoiled = λ i none. none }

  -- with a station more
  module _ (k : ℕ) (st : Station) (below : k < length sts) (at : st ≡ get_or sts k st) (among : ℕ) (a b : Crowd)
      (is : IsCrowd lines nodes among (rivals_in p x st) b) where
    pub from_more : IsFrom lines nodes all a → IsFrom lines nodes all (both_crowds a b)
    from_more was = record {
      mixed = λ i one. elim (either_bit a.mixed b.mixed i one) [
        | inl old ↦ was.mixed i old
        | inr new ↦
            from_one k st (differs lines (get_or nodes i 0)) below at
            (set_among nodes (λ v. list_any (differs lines v) (rivals_in p x st)) among b.mixed is.mixed i new)
      ];
      spoiled = λ i one. elim (either_bit a.spoiled b.spoiled i one) [
        | inl old ↦ was.spoiled i old
        | inr new ↦
            from_one k st (spoils lines (get_or nodes i 0)) below at
            (set_among nodes (λ v. list_any (spoils lines v) (rivals_in p x st)) among b.spoiled is.spoiled i new)
      ];
    }

    pub adds_more : (known : Crowd) → AddsTo known a → AddsTo known (both_crowds a b)
    adds_more known was = record {
      mixed = λ i none. was.mixed i (neither_bit a.mixed b.mixed i none).0;
      spoiled = λ i none. was.spoiled i (neither_bit a.spoiled b.spoiled i none).0;
    }

    tells_one : (ready i : ℕ) (d : Station) → ((j : ℕ) → bit_at ready j ≡ 1 → bit_at a.spoiled j ≡ 0 → bit_at among j ≡ 1) → i < length nodes
        → bit_at ready i ≡ 1 → HasBitsOf lines nodes (rivals_in p x (get_or sts k d)) i (both_crowds a b)
    tells_one ready i d asked inside one =
        subst (λ (s : Station). HasBitsOf lines nodes (rivals_in p x s) i (both_crowds a b)) (at ∙ get_or_default sts k st d below) (record {
          mixed = λ clean none. unset_among nodes (λ v. list_any (differs lines v) (rivals_in p x st)) among b.mixed is.mixed i inside
              (asked i one (neither_bit a.spoiled b.spoiled i clean).0) (neither_bit a.mixed b.mixed i none).1;
          spoiled = λ none.
              let both = neither_bit a.spoiled b.spoiled i none in
              unset_among nodes (λ v. list_any (spoils lines v) (rivals_in p x st)) among b.spoiled is.spoiled i inside (asked i one both.0) both.1;
        })

    pub tells_more : (ready places rest new : ℕ) → ((j : ℕ) → bit_at ready j ≡ 1 → bit_at a.spoiled j ≡ 0 → bit_at among j ≡ 1)
        → ((j : ℕ) → j ≢ k → bit_at new j ≡ bit_at rest j)
        → TellsAt lines nodes p x sts ready (λ j. (bit_at places j ≡ 1) × (bit_at rest j ≡ 0)) a
        → TellsAt lines nodes p x sts ready (λ j. (bit_at places j ≡ 1) × (bit_at new j ≡ 0)) (both_crowds a b)
    tells_more ready places rest new asked others was j i d inside one done = elim (cases_eq j k) [
      | inl here ↦
          subst (λ (n : ℕ). HasBitsOf lines nodes (rivals_in p x (get_or sts n d)) i (both_crowds a b)) (sym here) (tells_one ready i d asked inside one)
      | inr other ↦
          let old = was j i d inside one (done.0, sym (others j other) ∙ done.1) in
          record {
            mixed = λ clean none. old.mixed (neither_bit a.spoiled b.spoiled i clean).0 (neither_bit a.mixed b.mixed i none).0;
            spoiled = λ none. old.spoiled (neither_bit a.spoiled b.spoiled i none).0;
          }
    ]

-- one more node is near
pub near_more : (lines : Lines) (key : Key) (nodes : List ℕ) (ready rest new place near mask : ℕ)
    → IsNear lines key nodes (λ i. (bit_at ready i ≡ 1) × (bit_at rest i ≡ 0)) near
    → ((i : ℕ) → i ≢ place → bit_at new i ≡ bit_at rest i)
    → HasAll (λ from. passes lines key.frame key.slot key.counter from (get_or nodes place 0)) nodes mask
    → IsNear lines key nodes (λ i. (bit_at ready i ≡ 1) × (bit_at new i ≡ 0)) (bit_or near mask)
near_more lines key nodes ready rest new place near mask was others is i k to inside none =
    let both = neither_bit near mask k none in
    elim (cases_eq i place) [
      | inl here ↦
          ap (λ (n : ℕ). passes_at lines key (get_or nodes k 0) (get_or nodes n 0)) here
          ∙ is k inside both.1
      | inr other ↦ was i k (to.0, sym (others i other) ∙ to.1) inside both.0
    ]

-- what is given stays so
pub tells_more_of : (lines : Lines) (nodes : List ℕ) (rs : List Rival) (i : ℕ) (old new : Crowd) → AddsTo old new → HasBitsOf lines nodes rs i old
    → HasBitsOf lines nodes rs i new
tells_more_of lines nodes rs i old new adds was = record {
  mixed = λ clean none. was.mixed (adds.spoiled i clean) (adds.mixed i none);
  spoiled = λ none. was.spoiled (adds.spoiled i none);
}

-- the stations from which no link passes to a node tell nothing, where their marks show that they come close
module _ (lines : Lines) (nodes : List ℕ) (p : Numbers) (x : Sending) (sts : List Station) (mks : List Mark) (origin : Origin) (opens delta places near far
    strange : ℕ) (i : ℕ) (inside : i < length nodes) (few : length sts ≤ MOST_NODES) (starts : IsInOneFrame p.frame x.start opens) (by : delta ≡ p.delta)
    (placed : All (λ (st : Station). IsPlaceOf nodes st.place st.node) sts) (in_order : InOrder sts) (marks : AreMarks sts mks)
    (alike : AreAlikeTo sts mks origin x) (among : AreAmong p x sts places)
    (no_link : (k : ℕ) → k < length nodes → bit_at near k ≡ 0 → passes_at lines (key_of p x) (get_or nodes k 0) (get_or nodes i 0) ≡ false)
    (is_far : (k : ℕ) → bit_at far k ≡ min (bit_at places k) (1 - bit_at near k))
    (those : (d : Mark) → AreThose (λ k. not (comes_close opens (x.start + delta) x origin (get_or mks k d))) far strange) (c : Crowd) where
  no_rivals : (rs : List Rival) → rs ≡ [] → HasBitsOf lines nodes rs i c
  no_rivals rs is = record {
    mixed = λ clean none. ap (list_any (differs lines (get_or nodes i 0))) is;
    spoiled = λ none. ap (list_any (spoils lines (get_or nodes i 0))) is;
  }

  far_tells : (k : ℕ) (d : Station) → k < length sts → bit_at near k ≡ 0 → bit_at far k ≡ 1 → bit_at strange k ≡ 0
      → HasBitsOf lines nodes (rivals_in p x (get_or sts k d)) i c
  far_tells k d below not_near far_one none =
      let st = get_or sts k d in
      let mk = get_or mks k no_mark in
      let so = not_false (comes_close opens (x.start + delta) x origin mk) ((those no_mark).others k far_one none) in
      let is = marks.each k d no_mark below in
      let stands = alike k st mk (record {
        below = below;
        station = get_or_default sts k st d below;
        mark = get_or_default mks k mk no_mark (omega (arith, below, marks.one_each));
      }) in
      let at = placed k d below in
      let place = in_order k d below in
      let node : get_or nodes k 0 ≡ st.node = ap (λ (n : ℕ). get_or nodes n 0) (sym place) ∙ at.there in
      let cut : passes_at lines (key_of p x) st.node (get_or nodes i 0) ≡ false =
      ap (λ (n : ℕ). passes_at lines (key_of p x) n (get_or nodes i 0)) (sym node) ∙ no_link k (omega (arith, at.below, place)) not_near in
      record {
        mixed = λ clean unset. close_same p x st mk origin opens delta is stands starts by so lines (get_or nodes i 0);
        spoiled = λ unset. close_harmless p x st mk origin opens delta is stands starts by so lines (get_or nodes i 0) cut;
      }
    where
      not_false : (b : Bool) → not b ≡ false → b ≡ true
      not_false true is = refl
      not_false false is = sym is

  pub near_and_far : ((k : ℕ) (d : Station) → bit_at places k ≡ 1 → bit_at near k ≡ 1 → HasBitsOf lines nodes (rivals_in p x (get_or sts k d)) i c)
      → ((k : ℕ) (d : Station) → bit_at strange k ≡ 1 → HasBitsOf lines nodes (rivals_in p x (get_or sts k d)) i c)
      → HasBitsOf lines nodes (rivals_to p x sts) i c
  near_and_far near_tells strange_tells = tells_all lines nodes p x sts i c each
    where
      each : (k : ℕ) (d : Station) → k < length sts → HasBitsOf lines nodes (rivals_in p x (get_or sts k d)) i c
      each k d below = elim (bit_cases (bit_at places k) (bit_at-lt places k)) [
        | inl none ↦ no_rivals (rivals_in p x (get_or sts k d)) (among.others k d below none)
        | inr one ↦ elim (bit_cases (bit_at near k) (bit_at-lt near k)) [
          | inl not_near ↦ elim (bit_cases (bit_at strange k) (bit_at-lt strange k)) [
            | inl none ↦ far_tells k d below not_near (is_far k ∙ omega (arith, one, not_near)) none
            | inr one ↦ strange_tells k d one
          ]
          | inr is_near ↦ near_tells k d one is_near
        ]
      ]
