-- The first blank, as the code finds it among the bytes that are not above both blanks.
use Rattle.std.proofs.Common.{◌≡◌, ℕ, ◌+◌, ◌-◌, ◌<◌, List, Bool, true, false, Some, None, nat_lt, nat_le, length, drop, position}
use Rattle.std.proofs.Common.{sym, ◌∙◌, ap, arith, inl, inr, slice_index}
use Rattle.std.proofs.lemmas.Bool.{cases_lt, ltb-true, true≢false}
use Rattle.std.proofs.lemmas.Bool.Decides.{nat_tests}
use Rattle.std.proofs.lemmas.List.{get_or-drop}
use Rattle.std.proofs.lemmas.List.Sums.{fails_before_first}
use Rattle.std.proofs.lemmas.Option.{cond_some}
use Rattle.std.specs.List.{position_or_len}
use Rattle.memchr.specs.Find.{Nowhere, Passes}
use Rattle.text_readers.specs.Words.{is_blank}
use Rattle.text_readers.proofs.LineFeeds.{none_passes}

-- not above both blanks
abbrev pub is_low : ℕ → Bool
is_low b = nat_le b 32

-- a place that `position` says is the first
pub before_place : (p : ℕ → Bool) (bytes : List ℕ) (end : ℕ) → Some end ≡ position p bytes → (end < length bytes) × Nowhere (Passes p bytes) 0 end
before_place p bytes end is =
    let at = cond_some (nat_lt (position_or_len p bytes) (length bytes)) (position_or_len p bytes) end (sym is) in
    let below : position_or_len p bytes < length bytes = ltb-true _ _ at.0 in
    (omega (arith, at.1, below), λ k low less passes. true≢false (sym passes ∙ fails_before_first p bytes k 0 (omega (arith, at.1, less))))

-- none passes where none has a place
pub nowhere : (p : ℕ → Bool) (bytes : List ℕ) → None ≡ position p bytes → Nowhere (Passes p bytes) 0 (length bytes)
nowhere p bytes is k low less passes = true≢false (sym passes ∙ none_passes p bytes is k 0 less)

low_blank : (b : ℕ) → is_blank b ≡ true → is_low b ≡ true
low_blank b is = grind (arith, nat_tests)

-- no blank is among the bytes seen, nor among those above both blanks that follow
pub still_none : (bytes : List ℕ) (seen step : ℕ) → Nowhere (Passes is_blank bytes) 0 seen → Nowhere (Passes is_low (drop seen bytes)) 0 step
    → Nowhere (Passes is_blank bytes) 0 (seen + step)
still_none bytes seen step none high k low below blank = elim (cases_lt k seen) [
  | inl less ↦ none k low less blank
  | inr past ↦
      let at : slice_index (drop seen bytes) (k - seen) ≡ slice_index bytes k =
      get_or-drop seen bytes (k - seen) 0 ∙ ap (λ (n : ℕ). slice_index bytes n) (omega (arith, past)) in
      high (k - seen) (omega arith) (omega (arith, past, below)) (ap is_low at ∙ low_blank (slice_index bytes k) blank)
]

-- nor is the next byte, if it is none
pub one_more : (bytes : List ℕ) (end : ℕ) → Nowhere (Passes is_blank bytes) 0 end → is_blank (slice_index bytes end) ≡ false
    → Nowhere (Passes is_blank bytes) 0 (end + 1)
one_more bytes end none not k low below blank = elim (cases_lt k end) [
  | inl less ↦ none k low less blank
  | inr past ↦
      let same : k ≡ end = omega (arith, past, below) in
      true≢false (sym blank ∙ ap (λ (n : ℕ). is_blank (slice_index bytes n)) same ∙ not)
]
