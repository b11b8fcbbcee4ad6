-- What is known of the places of a mask as they are seen one after another.
use Rattle.std.proofs.Common.{◌≡◌, ◌≢◌, ◌<◌, ◌≤◌, ℕ, inl, inr, sym, ◌∙◌, ap, subst, arith}
use Rattle.std.specs.Int.{bit_at}
use Rattle.std.proofs.lemmas.Bool.{cases_eq}
use Rattle.std.proofs.lemmas.Nat.Bits.{bit_at-zero}

-- P holds of each place of the mask that the rest lacks
pub record AreSeen (P : ℕ → Type 0) (mask rest : ℕ) : Type 0 where
  pub left : (k : ℕ) → bit_at rest k ≡ 1 → bit_at mask k ≡ 1
  pub seen : (k : ℕ) → bit_at mask k ≡ 1 → bit_at rest k ≡ 0 → P k

pub none_seen : (P : ℕ → Type 0) (mask : ℕ) → AreSeen P mask mask
none_seen P mask = record { left = λ k one. one; seen = λ k one none. absurd (omega (arith, one, none)) }

module _ (P : ℕ → Type 0) (mask rest : ℕ) (are : AreSeen P mask rest) where
  -- one place more
  pub one_seen : (next i : ℕ) → bit_at next i ≡ 0 → ((k : ℕ) → k ≢ i → bit_at next k ≡ bit_at rest k) → P i → AreSeen P mask next
  one_seen next i cleared others here = record {
    left = λ k one. elim (cases_eq k i) [
      | inl same ↦ absurd (omega (arith, one, cleared, ap (bit_at next) same))
      | inr other ↦ are.left k (sym (others k other) ∙ one)
    ];
    seen = λ k one none. elim (cases_eq k i) [
      | inl same ↦ subst P (sym same) here
      | inr other ↦ are.seen k one (sym (others k other) ∙ none)
    ];
  }

  pub all_seen : rest ≡ 0 → (k : ℕ) → bit_at mask k ≡ 1 → P k
  all_seen over k one = are.seen k one (ap (λ (n : ℕ). bit_at n k) over ∙ bit_at-zero k)

  -- the places before the first that is left
  pub seen_below : (i n : ℕ) → ((k : ℕ) → k < i → bit_at rest k ≡ 0) → n ≤ i → (k : ℕ) → k < n → bit_at mask k ≡ 1 → P k
  seen_below i n first most k near one = are.seen k one (first k (omega (arith, near, most)))
