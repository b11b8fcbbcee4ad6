-- Those of the bits of a mask where a test holds, found one after the other.
use Rattle.std.proofs.Common.{◌≡◌, ◌≢◌, ℕ, ◌==◌, Bool, true, false, inl, inr, sym, ◌∙◌, ap, arith}
use Rattle.std.proofs.lemmas.Bool.{cases_eq, eqb-true}
use Rattle.std.proofs.lemmas.Nat.Bits.{bit_at-zero}
use Rattle.std.specs.Int.{bit_at}
use Rattle.radio_model.specs.Meetings.{AreThose}

-- a set is empty, by its test
pub is_none : (n : ℕ) (b : Bool) → b ≡ (n == 0) → b ≡ true → n ≡ 0
is_none n b is so = eqb-true n 0 (sym is ∙ so)

-- what is kept so far, while the rest is left
pub record Picks (test : ℕ → Bool) (mask kept rest : ℕ) : Type 0 where
  pub among : (k : ℕ) → bit_at kept k ≡ 1 → bit_at mask k ≡ 1
  pub left : (k : ℕ) → bit_at rest k ≡ 1 → bit_at kept k ≡ 1
  pub so : (k : ℕ) → bit_at kept k ≡ 1 → bit_at rest k ≡ 0 → test k ≡ true
  pub others : (k : ℕ) → bit_at mask k ≡ 1 → bit_at kept k ≡ 0 → test k ≡ false

pub all_left : (test : ℕ → Bool) (mask : ℕ) → Picks test mask mask mask
all_left test mask = record {
  among = λ k one. one;
  left = λ k one. one;
  so = λ k one none. absurd (omega (arith, one, none));
  others = λ k one none. absurd (omega (arith, one, none));
}

module _ (test : ℕ → Bool) (mask kept rest new place : ℕ) (was : Picks test mask kept rest) (now : bit_at new place ≡ 0) (others : (i : ℕ) → i ≢ place
    → bit_at new i ≡ bit_at rest i) where
  pub stays : test place ≡ true → Picks test mask kept new
  stays is = record {
    among = was.among;
    left = λ k one. elim (cases_eq k place) [
      | inl here ↦ absurd (omega (arith, one, now, ap (bit_at new) here))
      | inr other ↦ was.left k (sym (others k other) ∙ one)
    ];
    so = λ k one none. elim (cases_eq k place) [
      | inl here ↦ ap test here ∙ is
      | inr other ↦ was.so k one (sym (others k other) ∙ none)
    ];
    others = was.others;
  }

  pub goes : (less : ℕ) → bit_at less place ≡ 0 → ((i : ℕ) → i ≢ place → bit_at less i ≡ bit_at kept i) → test place ≡ false → Picks test mask less new
  goes less gone same is = record {
    among = λ k one. elim (cases_eq k place) [
      | inl here ↦ absurd (omega (arith, one, gone, ap (bit_at less) here))
      | inr other ↦ was.among k (sym (same k other) ∙ one)
    ];
    left = λ k one. elim (cases_eq k place) [
      | inl here ↦ absurd (omega (arith, one, now, ap (bit_at new) here))
      | inr other ↦ same k other ∙ was.left k (sym (others k other) ∙ one)
    ];
    so = λ k one none. elim (cases_eq k place) [
      | inl here ↦ absurd (omega (arith, one, gone, ap (bit_at less) here))
      | inr other ↦ was.so k (sym (same k other) ∙ one) (sym (others k other) ∙ none)
    ];
    others = λ k one none. elim (cases_eq k place) [
      | inl here ↦ ap test here ∙ is
      | inr other ↦ was.others k one (sym (same k other) ∙ none)
    ];
  }

-- where it holds of none
pub those_of_none : (test : ℕ → Bool) (mask : ℕ) → ((k : ℕ) → bit_at mask k ≡ 1 → test k ≡ false) → AreThose test mask 0
those_of_none test mask not_one = record {
  among = λ k one. absurd (omega (arith, one, bit_at-zero k));
  so = λ k one. absurd (omega (arith, one, bit_at-zero k));
  others = λ k one none. not_one k one;
}

pub none_left : (test : ℕ → Bool) (mask kept rest : ℕ) → rest ≡ 0 → Picks test mask kept rest → AreThose test mask kept
none_left test mask kept rest over is = record {
  among = is.among;
  so = λ k one. is.so k one (ap (λ (n : ℕ). bit_at n k) over ∙ bit_at-zero k);
  others = is.others;
}
