-- What a clock counts along its kept segments.
use Rattle.std.proofs.Common.{◌≡◌, ℕ, zero, suc, ◌+◌, ◌-◌, ◌*◌, ◌^◌, ◌<◌, ◌≤◌, List, [], ◌∷◌, length, Bool, true, false}
use Rattle.std.proofs.Common.{if◌then◌else◌, map, get_or, inl, inr, refl, sym, ◌∙◌, ap, subst, arith}
use Rattle.std.specs.Prelude.{ℤ}
use Rattle.std.specs.List.{AllWithin}
use Rattle.std.specs.List.Sorted.{IsNonDecreasingBy}
use Rattle.std.specs.Int.RustNames.{unsigned_abs}
use Rattle.std.proofs.Math.Nat.{mul-le-mul_left}
use Rattle.std.proofs.lemmas.Bool.{cases_lt, leb-true, leb-false, le-leb, lt-leb, ltb-true, ltb-false}
use Rattle.std.proofs.lemmas.Grind.{div_ceil_times}
use Rattle.std.specs.Int.{div_ceil}
use Rattle.std.proofs.lemmas.Int.{to_z-of_z, fits_signed_from_abs}
use mir.Val.{to_z, of_z}
use mir.Syntax.{w8}
use Rattle.tick_clock.specs.declared.segment.Segment.{Segment}
use Rattle.tick_clock.specs.Rates.{rate_from, rate_at, shifted}
use Rattle.tick_clock.specs.RatesLaw.{count_before, AreTame, count_range}
use Rattle.tick_clock.specs.Segments.{has_begun, counts_less, Splits, IsLast, rate_entry_of, pace_of, count_until, first_segment, Follows, AreSegmentsAfter}
use Rattle.tick_clock.specs.Segments.{last_segment}
use Rattle.tick_clock.specs.KeptLaw.{tame_of}

pub splits_from : (passes : Segment → Bool) (ss : List Segment) (i : ℕ) → i ≤ length ss → AllWithin (λ s. passes s ≡ true) ss 0 i
    → AllWithin (λ s. passes s ≡ false) ss i (length ss) → Splits passes ss i
splits_from passes [] zero within in_front after = tt
splits_from passes [] (suc i) within in_front after = absurd (omega arith)
splits_from passes (s ∷ ss) zero within in_front after = after 0 s (omega arith) (omega arith)
splits_from passes (s ∷ ss) (suc i) within in_front after = (
  in_front 0 s (omega arith) (omega arith),
  splits_from passes ss i (omega arith) (λ k d low high. in_front (suc k) d (omega arith) (omega arith))
      (λ k d low high. after (suc k) d (omega arith) (omega arith)),
)

chosen : (z w : ℤ) (xs : List Segment) (s : ℕ) (b : Bool) {a : Bool} → a ≡ b
    → rate_from (if a then w else z) (map rate_entry_of xs) s ≡ rate_from (if b then w else z) (map rate_entry_of xs) s
chosen z w xs s b is = ap (λ (c : Bool). rate_from (if c then w else z) (map rate_entry_of xs) s) is

quiet_after : (z : ℤ) (x : Segment) (xs : List Segment) (s : ℕ) → AreSegmentsAfter x xs → s < x.start → rate_from z (map rate_entry_of xs) s ≡ z
quiet_after z x [] s kept early = refl
quiet_after z x (y ∷ ys) s kept early = let later : s < y.start = omega (arith, kept.0) in
    chosen z y.ppm ys s false (lt-leb y.start s later) ∙ quiet_after z y ys s kept.1 later

-- before the next segment its rate is not in force
quiet : (z : ℤ) (x : Segment) (xs : List Segment) (s : ℕ) → AreSegmentsAfter x xs → s < x.start → rate_from z (map rate_entry_of (x ∷ xs)) s ≡ z
quiet z x xs s kept early = chosen z x.ppm xs s false (lt-leb x.start s early) ∙ quiet_after z x xs s kept early

-- from its start on it is
begun : (z : ℤ) (x : Segment) (xs : List Segment) (s : ℕ) → x.start ≤ s → rate_from z (map rate_entry_of (x ∷ xs)) s ≡ rate_from x.ppm (map rate_entry_of xs) s
begun z x xs s at = chosen z x.ppm xs s true (le-leb x.start s at)

-- while one rate is in force
flat : (rates : List (ℕ × ℤ)) (z : ℤ) (a d : ℕ) → ((s : ℕ) → a ≤ s → s < a + d → rate_at rates s ≡ z)
    → count_before rates (a + d) ≡ count_before rates a + shifted 1000000 z * d
unfolding count_before
flat rates z a zero one = let same : count_before rates (a + zero) ≡ count_before rates a = ap (count_before rates) (omega arith) in omega arith
flat rates z a (suc d) one =
    let tick : a + suc d ≡ suc (a + d) = omega arith in
    let next : count_before rates (a + suc d) ≡ count_before rates (a + d) + shifted 1000000 (rate_at rates (a + d)) = ap (count_before rates) tick in
    let before = flat rates z a d (λ s low high. one s low (omega arith)) in
    let now : shifted 1000000 (rate_at rates (a + d)) ≡ shifted 1000000 z = ap (shifted 1000000) (one (a + d) (omega arith) (omega arith)) in
    omega (arith, next, before, now)

-- from the start of r on, the rates in force are those of r and of the segments after it
abbrev GoesOn : List (ℕ × ℤ) → Segment → List Segment → Type 0
GoesOn rates r ss = (s : ℕ) → r.start ≤ s → rate_at rates s ≡ rate_from r.ppm (map rate_entry_of ss) s

-- what is counted by the start of the next segment
at_next : (rates : List (ℕ × ℤ)) (r x : Segment) (xs : List Segment) → GoesOn rates r (x ∷ xs) → count_before rates r.start ≡ r.count
    → AreSegmentsAfter r (x ∷ xs) → (d : ℕ) → r.start + d ≤ x.start
    → count_before rates (r.start + d) ≡ r.count + pace_of r.ppm * d
at_next rates r x xs on is kept d within =
    let f = flat rates r.ppm r.start d (λ s low high. on s low ∙ quiet r.ppm x xs s kept.1 (omega arith)) in
    omega (arith, f, is)

next_is : (rates : List (ℕ × ℤ)) (r x : Segment) (xs : List Segment) → GoesOn rates r (x ∷ xs) → count_before rates r.start ≡ r.count
    → AreSegmentsAfter r (x ∷ xs) → count_before rates x.start ≡ x.count
next_is rates r x xs on is kept =
    let d : ℕ = x.start - r.start in
    let at : x.start ≡ r.start + d = omega (arith, kept.0) in
    let c = at_next rates r x xs on is kept d (omega arith) in
    let same : count_before rates x.start ≡ count_before rates (r.start + d) = ap (count_before rates) at in
    omega (arith, c, same, kept.0)

goes_on : (rates : List (ℕ × ℤ)) (r x : Segment) (xs : List Segment) → GoesOn rates r (x ∷ xs) → AreSegmentsAfter r (x ∷ xs) → GoesOn rates x xs
goes_on rates r x xs on kept = λ s at. on s (omega (arith, kept.0)) ∙ begun r.ppm x xs s at

-- s has begun by t, and what is counted by t follows from it
pub record InForce (rates : List (ℕ × ℤ)) (s : Segment) (t : ℕ) : Type 0 where
  pub begun : s.start ≤ t
  pub rate : unsigned_abs s.ppm ≤ 20
  pub counted : count_before rates t ≡ count_until s t
  pub early : s.count ≤ count_before rates t

held : (rates : List (ℕ × ℤ)) (r : Segment) (t : ℕ) → r.start ≤ t → unsigned_abs r.ppm ≤ 20
    → ((d : ℕ) → r.start + d ≤ t → count_before rates (r.start + d) ≡ r.count + pace_of r.ppm * d) → InForce rates r t
held rates r t at small by =
    let d : ℕ = t - r.start in
    let is : r.start + d ≡ t = omega arith in
    let c : count_before rates (r.start + d) ≡ r.count + pace_of r.ppm * d = by d (omega arith) in
    let same : count_before rates (r.start + d) ≡ count_before rates t = ap (count_before rates) is in
    record { begun = at; rate = small; counted = omega (arith, c, same); early = omega (arith, c, same) }

in_force : (rates : List (ℕ × ℤ)) (r : Segment) (ss : List Segment) (i t : ℕ) → GoesOn rates r ss → count_before rates r.start ≡ r.count
    → unsigned_abs r.ppm ≤ 20 → AreSegmentsAfter r ss → r.start ≤ t
    → Splits (has_begun t) ss i → InForce rates (last_segment r ss i) t
in_force rates r [] zero t on is small kept at split =
    held rates r t at small (λ d within. (let f = flat rates r.ppm r.start d (λ s low high. on s low) in omega (arith, f, is)))
in_force rates r [] (suc i) t on is small kept at split = absurd split
in_force rates r (x ∷ xs) zero t on is small kept at split =
    let later : t < x.start = leb-false x.start t split in
    held rates r t at small (λ d within. at_next rates r x xs on is kept d (omega arith))
in_force rates r (x ∷ xs) (suc i) t on is small kept at split =
    in_force rates x xs i t (goes_on rates r x xs on kept) (next_is rates r x xs on is kept) kept.0.2 kept.1 (leb-true x.start t split.0) split.1

no_count : (rates : List (ℕ × ℤ)) → count_before rates 0 ≡ 0
unfolding count_before
no_count rates = refl

pub in_force_at : (ss : List Segment) (i t : ℕ) → AreSegmentsAfter first_segment ss → Splits (has_begun t) ss i
    → InForce (map rate_entry_of ss) (last_segment first_segment ss i) t
in_force_at ss i t kept split = in_force (map rate_entry_of ss) first_segment ss i t (λ s at. refl) (no_count (map rate_entry_of ss))
    (omega arith) kept (omega arith) split

-- ---- the first tick at which so much is counted

-- q is n / p, rounded up
abbrev pub IsCeil : ℕ → ℕ → ℕ → Type 0
IsCeil n p q = (n ≤ q * p) × (q * p < n + p)

pub record IsFirst (rates : List (ℕ × ℤ)) (wanted t : ℕ) : Type 0 where
  pub reached : wanted ≤ count_before rates t
  pub before : (u : ℕ) → u < t → count_before rates u < wanted

-- the clock comes to the count by this segment
pub record Comes (rates : List (ℕ × ℤ)) (s : Segment) (wanted : ℕ) : Type 0 where
  pub start : s.start < 2 ^ 47
  pub rate : unsigned_abs s.ppm ≤ 20
  pub low : s.count ≤ wanted
  pub first : (q : ℕ) → IsCeil (wanted - s.count) (pace_of s.ppm) q → IsFirst rates wanted (s.start + q)

first_by : (rates : List (ℕ × ℤ)) (r : Segment) (wanted q : ℕ) → r.count ≤ wanted → ((u : ℕ) → u < r.start → count_before rates u < wanted)
    → ((d : ℕ) → d ≤ q → count_before rates (r.start + d) ≡ r.count + pace_of r.ppm * d) → IsCeil (wanted - r.count) (pace_of r.ppm) q
    → IsFirst rates wanted (r.start + q)
first_by rates r wanted q low early by ceil = record {
  reached = omega (arith, by q (omega arith));
  before = λ u less. elim (cases_lt u r.start) [
    | inl front ↦ early u front
    | inr at ↦ (let k : ℕ = u - r.start in
        let is : u ≡ r.start + k = omega arith in
        let same : count_before rates u ≡ count_before rates (r.start + k) = ap (count_before rates) is in
        let few : suc k ≤ q = omega arith in
        omega (arith, same, by k (omega arith), mul-le-mul_left (pace_of r.ppm) few))
  ];
}

-- a count that is reached by the next segment's start is reached within the ticks up to it
within_next : (n p d q : ℕ) → IsCeil n p q → n ≤ p * d → q ≤ d
within_next n p d q ceil enough = elim (cases_lt d q) [ inl more ↦ absurd (omega (arith, mul-le-mul_left p more)) | inr at ↦ at ]

earlier : (rates : List (ℕ × ℤ)) (u t : ℕ) → AreTame rates → u ≤ t → count_before rates u ≤ count_before rates t
earlier rates u t tame order =
    let d : ℕ = t - u in
    let same : count_before rates (u + d) ≡ count_before rates t = ap (count_before rates) (omega arith) in
    omega (arith, same, count_range rates u d tame)

comes : (rates : List (ℕ × ℤ)) (r : Segment) (ss : List Segment) (i wanted : ℕ) → AreTame rates → GoesOn rates r ss
    → count_before rates r.start ≡ r.count → r.start < 2 ^ 47 → unsigned_abs r.ppm ≤ 20 → AreSegmentsAfter r ss
    → r.count ≤ wanted → ((u : ℕ) → u < r.start → count_before rates u < wanted) → Splits (counts_less wanted) ss i → Comes rates (last_segment r ss i) wanted
comes rates r [] zero wanted tame on is start small kept low early split = record {
  start = start;
  rate = small;
  low = low;
  first = λ q ceil. first_by rates r wanted q low early (λ d few. (let f = flat rates r.ppm r.start d (λ s at less. on s at) in omega (arith, f, is))) ceil;
}
comes rates r [] (suc i) wanted tame on is start small kept low early split = absurd split
comes rates r (x ∷ xs) zero wanted tame on is start small kept low early split =
    let enough : wanted ≤ x.count = ltb-false x.count wanted split in
    record {
      start = start;
      rate = small;
      low = low;
      first = λ q ceil. (let few : q ≤ x.start - r.start = within_next (wanted - r.count) (pace_of r.ppm) (x.start - r.start) q ceil (omega (arith, kept.0)) in
          first_by rates r wanted q low early (λ d within. at_next rates r x xs on is kept d (omega (arith, kept.0))) ceil);
    }
comes rates r (x ∷ xs) (suc i) wanted tame on is start small kept low early split =
    let next = next_is rates r x xs on is kept in
    let less : x.count < wanted = ltb-true x.count wanted split.0 in
    comes rates x xs i wanted tame (goes_on rates r x xs on kept) next kept.0.1 kept.0.2 kept.1 (omega arith)
    (λ u before. omega (arith, earlier rates u x.start tame (omega arith))) split.1

pub comes_to : (ss : List Segment) (i wanted : ℕ) → AreSegmentsAfter first_segment ss → Splits (counts_less wanted) ss i
    → Comes (map rate_entry_of ss) (last_segment first_segment ss i) wanted
comes_to ss i wanted kept split =
    comes (map rate_entry_of ss) first_segment ss i wanted (tame_of first_segment ss kept) (λ s at. refl) (no_count (map rate_entry_of ss))
    (omega arith) (omega arith) kept (omega arith) (λ u before. absurd (omega arith)) split

-- ---- kept segments rise

module _ (key : Segment → ℕ) (rises : (r s : Segment) → Follows r s → key r ≤ key s) where
  pub above_first : (r : Segment) (ss : List Segment) → AreSegmentsAfter r ss → (i : ℕ) (d : Segment) → i < length ss → key r ≤ key (get_or ss i d)
  above_first r [] kept i d within = absurd (omega arith)
  above_first r (s ∷ ss) kept zero d within = rises r s kept.0
  above_first r (s ∷ ss) kept (suc i) d within = omega (arith, rises r s kept.0, above_first s ss kept.1 i d (omega arith))

  pub kept_rise : (r : Segment) (ss : List Segment) → AreSegmentsAfter r ss → IsNonDecreasingBy key ss
  kept_rise r [] kept i j d order within = absurd (omega arith)
  kept_rise r (s ∷ ss) kept zero zero d order within = omega arith
  kept_rise r (s ∷ ss) kept zero (suc j) d order within = above_first s ss kept.1 j d (omega arith)
  kept_rise r (s ∷ ss) kept (suc i) zero d order within = absurd (omega arith)
  kept_rise r (s ∷ ss) kept (suc i) (suc j) d order within = kept_rise s ss kept.1 i j d (omega arith) (omega arith)

pub starts_rise : (ss : List Segment) → AreSegmentsAfter first_segment ss → IsNonDecreasingBy (λ s. s.start) ss
starts_rise ss kept = kept_rise (λ s. s.start) (λ r s follows. omega arith) first_segment ss kept

pub counts_rise : (ss : List Segment) → AreSegmentsAfter first_segment ss → IsNonDecreasingBy (λ s. s.count) ss
counts_rise ss kept = kept_rise (λ s. s.count) (λ r s follows. omega arith) first_segment ss kept

-- the last of some is an element
pub last_at : (r : Segment) (ss : List Segment) (k : ℕ) (d : Segment) → k < length ss → last_segment r ss (suc k) ≡ get_or ss k d
last_at r [] k d within = absurd (omega arith)
last_at r (s ∷ ss) zero d within = refl
last_at r (s ∷ ss) (suc k) d within = last_at s ss k d (omega arith)

-- as a search finds it
pub in_force_found : (ss : List Segment) (t : ℕ) (s : Segment) → AreSegmentsAfter first_segment ss → IsLast (has_begun t) ss s
    → InForce (map rate_entry_of ss) s t
in_force_found ss t s kept last = subst (λ (r : Segment). InForce (map rate_entry_of ss) r t) (sym last.2) (in_force_at ss last.0 t kept last.1)

pub comes_found : (ss : List Segment) (wanted : ℕ) (s : Segment) → AreSegmentsAfter first_segment ss → IsLast (counts_less wanted) ss s
    → Comes (map rate_entry_of ss) s wanted
comes_found ss wanted s kept last = subst (λ (r : Segment). Comes (map rate_entry_of ss) r wanted) (sym last.2) (comes_to ss last.0 wanted kept last.1)

-- as the clock's range has it
pub count_small : (ss : List Segment) (t : ℕ) → AreSegmentsAfter first_segment ss → t ≤ 2 ^ 48 → count_before (map rate_entry_of ss) t ≤ 1000020 * t
count_small ss t kept within =
    let range = count_range (map rate_entry_of ss) 0 t (tame_of first_segment ss kept) in
    let same : count_before (map rate_entry_of ss) (0 + t) ≡ count_before (map rate_entry_of ss) t = ap (count_before (map rate_entry_of ss)) (omega arith) in
    omega (arith, range, same, no_count (map rate_entry_of ss))

pub ceil_of : (n p r q : ℕ) → 0 < p → r ≡ p → q ≡ div_ceil n r → IsCeil n p q
ceil_of n p r q some same is =
    let at : q ≡ div_ceil n p = is ∙ ap (λ (m : ℕ). div_ceil n m) same in
    subst (λ (m : ℕ). IsCeil n p m) (sym at) (div_ceil_times n p some)

-- a rate as the program reads it
pub same_rate : (z : ℤ) → unsigned_abs z ≤ 20 → to_z w8 (of_z w8 z) ≡ z
same_rate z small = to_z-of_z w8 z (fits_signed_from_abs w8 z (omega arith))
