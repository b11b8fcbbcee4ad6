-- How segments are kept, one after another, from rates that are in order.
use Rattle.std.proofs.Common.{◌≡◌, ℕ, suc, ◌+◌, ◌-◌, ◌*◌, ◌^◌, ◌<◌, ◌≤◌, List, [], ◌∷◌, ◌++◌, length, drop, map, Bool, true}
use Rattle.std.proofs.Common.{false, cond, Option, Some, None, option_map, refl, sym, ◌∙◌, ap, subst, arith}
use Rattle.std.specs.Prelude.{ℤ, ⊤, All}
use Rattle.std.specs.List.{zip, position_from}
use Rattle.std.specs.Int.RustNames.{unsigned_abs}
use Rattle.std.proofs.Math.Nat.{mul-le-mul_right}
use Rattle.std.proofs.lemmas.List.{map-append}
use Rattle.std.proofs.lemmas.Iterator.Adapters.{position_from-zero}
use Rattle.std.proofs.lemmas.Bool.{ltb-false, leb-false}
use Rattle.tick_clock.specs.declared.segment.Segment.{Segment}
use Rattle.tick_clock.specs.Rates.{is_wild, is_late, wild_at, unordered_at}
use Rattle.tick_clock.specs.RatesLaw.{pace_range}
use Rattle.tick_clock.specs.Segments.{rate_entry_of, pace_of, count_until, first_segment, Follows, AreSegmentsAfter, last_segment}

-- the entries are those of a clock, and none starts before tick low
abbrev pub InOrder : ℕ → List (ℕ × ℤ) → Type 0
InOrder low [] = ⊤
InOrder low (r ∷ rs) = (low ≤ r.0) × (r.0 < 2 ^ 47) × (unsigned_abs r.1 ≤ 20) × InOrder r.0 rs

abbrev FirstFrom : ℕ → List (ℕ × ℤ) → Type 0
FirstFrom low [] = ⊤
FirstFrom low (r ∷ rs) = low ≤ r.0

none_head : (b : Bool) (i : ℕ) (o : Option ℕ) → cond b (Some i) o ≡ None → (b ≡ false) × (o ≡ None)
none_head true i o is = cc
none_head false i o is = (refl, is)

in_order_from : (low i j : ℕ) (rs : List (ℕ × ℤ)) → FirstFrom low rs → position_from is_wild i rs ≡ None
    → position_from is_late j (zip rs (drop 1 rs)) ≡ None → All (λ r. r.0 < 2 ^ 47) rs → InOrder low rs
in_order_from low i j [] from wild late starts = tt
in_order_from low i j (x ∷ []) from wild late starts = (from, starts 0 x (omega arith), ltb-false 20 (unsigned_abs x.1) (none_head _ _ _ wild).0, tt)
in_order_from low i j (x ∷ y ∷ ys) from wild late starts =
    let w = none_head (is_wild x) i (position_from is_wild (i + 1) (y ∷ ys)) wild in
    let l = none_head (is_late (x, y)) j (position_from is_late (j + 1) (zip (y ∷ ys) ys)) late in
    let later : x.0 < y.0 = leb-false y.0 x.0 l.0 in (
      from,
      starts 0 x (omega arith),
      ltb-false 20 (unsigned_abs x.1) w.0,
      in_order_from x.0 (i + 1) (j + 1) (y ∷ ys) (omega arith) w.1 l.1 (λ k d within. starts (suc k) d (omega arith)),
    )

none_mapped : (o : Option ℕ) → option_map {U = ℕ} (λ i. i + 1) o ≡ None → o ≡ None
none_mapped None is = refl
none_mapped (Some x) is = cc

first_from_zero : (rs : List (ℕ × ℤ)) → FirstFrom 0 rs
first_from_zero [] = tt
first_from_zero (r ∷ rs) = omega arith

pub in_order : (rs : List (ℕ × ℤ)) → wild_at rs ≡ None → unordered_at rs ≡ None → All (λ r. r.0 < 2 ^ 47) rs → InOrder 0 rs
in_order rs wild late starts =
    in_order_from 0 0 0 rs (first_from_zero rs) (sym (position_from-zero is_wild rs) ∙ wild)
    (sym (position_from-zero is_late (zip rs (drop 1 rs))) ∙ none_mapped _ late) starts

-- its count is within the clock's range
pub record IsSmall (s : Segment) : Type 0 where
  pub start : s.start < 2 ^ 47
  pub rate : unsigned_abs s.ppm ≤ 20
  pub count : s.count ≤ 1000020 * s.start

-- the next segment follows
pub next_follows : (r s : Segment) → IsSmall r → r.start ≤ s.start → s.start < 2 ^ 47 → unsigned_abs s.ppm ≤ 20
    → s.count ≡ count_until r s.start → Follows r s × IsSmall s
next_follows r s small order start rate is =
    let most : pace_of r.ppm * (s.start - r.start) ≤ 1000020 * (s.start - r.start) = mul-le-mul_right (s.start - r.start) (pace_range r.ppm small.rate).1 in
    ((order, start, rate, omega arith, omega arith), record { start = start; rate = rate; count = omega (arith, most, small.count) })

pub kept_more : (r : Segment) (ss : List Segment) (s : Segment) → AreSegmentsAfter r ss → Follows (last_segment r ss (length ss)) s
    → AreSegmentsAfter r (ss ++ s ∷ [])
kept_more r [] s kept follows = (follows, tt)
kept_more r (x ∷ xs) s kept follows = (kept.0, kept_more x xs s kept.1 follows)

pub last_more : (r : Segment) (ss : List Segment) (s : Segment) → last_segment r (ss ++ s ∷ []) (length (ss ++ s ∷ [])) ≡ s
last_more r [] s = refl
last_more r (x ∷ xs) s = last_more x xs s

-- one more segment, for the next entry of the rates
module _ (ss : List Segment) (last : Segment) (x : ℕ × ℤ) (rest : List (ℕ × ℤ)) (z : ℤ) (count : ℕ) (same : z ≡ x.1) (is : count ≡ count_until last x.0)
    (kept : AreSegmentsAfter first_segment ss) (at : last ≡ last_segment first_segment ss (length ss)) (small : IsSmall last)
    (todo : InOrder last.start (x ∷ rest)) where
  abbrev s : Segment
  s = record { start = x.0; ppm = z; count = count }

  tame : unsigned_abs z ≤ 20
  tame = subst (λ (w : ℤ). unsigned_abs w ≤ 20) (sym same) todo.2

  follows : Follows last s × IsSmall s
  follows = next_follows last s small todo.0 todo.1 tame is

  pub step_kept : AreSegmentsAfter first_segment (ss ++ s ∷ [])
  step_kept = kept_more first_segment ss s kept (subst (λ (r : Segment). Follows r s) at follows.0)

  pub step_last : s ≡ last_segment first_segment (ss ++ s ∷ []) (length (ss ++ s ∷ []))
  step_last = sym (last_more first_segment ss s)

  pub step_small : IsSmall s
  step_small = follows.1

  pub step_entries : (done : List (ℕ × ℤ)) → map rate_entry_of ss ≡ done → map rate_entry_of (ss ++ s ∷ []) ≡ done ++ x ∷ []
  step_entries done is =
      map-append rate_entry_of ss (s ∷ []) ∙ ap (λ (l : List (ℕ × ℤ)). l ++ rate_entry_of s ∷ []) is ∙ ap (λ (w : ℤ). done ++ (x.0, w) ∷ []) same
