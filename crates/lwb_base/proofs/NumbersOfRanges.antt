-- The numbers of a range.
use Rattle.std.proofs.Common.{ℕ, zero, suc, ◌+◌, ◌<◌, ◌≤◌, ◌∷◌, inl, inr, Contains, subst, arith}
use Rattle.std.specs.List.{range_with_len}
use Rattle.std.proofs.lemmas.Bool.{cases_lt}
use Rattle.lwb_base.proofs.Elements.{contains_cases, contains_head, contains_tail, not_in_none}

pub in_range : (a n k : ℕ) → a ≤ k → k < a + n → Contains (range_with_len a n) k
in_range a zero k from below = absurd (omega (arith, from, below))
in_range a (suc n) k from below =
    elim (cases_lt a k) [
      | inl later ↦ contains_tail a (range_with_len (a + 1) n) k (in_range (a + 1) n k (omega (arith, later)) (omega (arith, below)))
      | inr first ↦ subst (λ (i : ℕ). Contains (a ∷ range_with_len (a + 1) n) i) (omega (arith, from, first)) (contains_head a (range_with_len (a + 1) n))
    ]

pub from_range : (a n k : ℕ) → Contains (range_with_len a n) k → (a ≤ k) × (k < a + n)
from_range a zero k there = absurd (not_in_none k there)
from_range a (suc n) k there =
    elim (contains_cases a (range_with_len (a + 1) n) k there) [
      | inl same ↦ (omega (arith, same), omega (arith, same))
      | inr later ↦ (let within = from_range (a + 1) n k later in (omega (arith, within), omega (arith, within)))
    ]
