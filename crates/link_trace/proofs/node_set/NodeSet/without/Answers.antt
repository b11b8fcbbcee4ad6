use Rattle.std.proofs.Common.{◌≡◌, ◌≢◌, ◌∙◌, ℕ, subst, ◌*◌, ◌%◌, ◌^◌, ◌<◌, ◌≤◌, min, bit_and, w64, inl, inr, ap, arith, rules}
use Rattle.std.specs.Int.{bit_at, bit_not}
use Rattle.std.proofs.lemmas.Bool.{cases_lt}
use Rattle.std.proofs.lemmas.Nat.{and_le_l}
use Rattle.std.proofs.lemmas.Nat.Bits.{bit_at_and, bit_at_above, bit_at_clear_same, bit_at_clear_other}
use Rattle.std.proofs.Math.Nat.{min-le_left}
use Rattle.link_trace.proofs.node_set.NodeSet.without.Goals as goal

-- a smaller number with another bit is less
less : (n m k : ℕ) → m ≤ n → bit_at n k ≡ 1 → bit_at m k ≡ 0 → m < n
less n m k most one zero_bit = elim (cases_lt m n) [
  | inl below ↦ below
  | inr not ↦
      let same : m ≡ n = omega arith in
      absurd (omega (arith, one, zero_bit, ap (λ (j : ℕ). bit_at j k) same))
]

abbrev other : ℕ → ℕ
other k = bit_not w64 (1 * 2 ^ k % 2 ^ 64)

-- the other bits stay
stays : (mask k i : ℕ) → mask < 2 ^ 64 → k < 64 → i ≢ k → bit_at (bit_and mask (other k)) i ≡ bit_at mask i
stays mask k i small within is = elim (cases_lt i 64) [
  | inl near ↦ bit_at_clear_other w64 mask k within i near is
  | inr far ↦
      let none : bit_at mask i ≡ 0 = bit_at_above mask 64 i small far in
      let both : bit_at (bit_and mask (other k)) i ≡ min (bit_at mask i) (bit_at (other k) i) = bit_at_and mask (other k) i in
      omega (arith, none, both, min-le_left (bit_at mask i) (bit_at (other k) i))
]

pub returns-clause-less : goal.returns-clause-less
returns-clause-less c =
    let mask = c.self.inside.word in
    let k = c.args.place in
    subst (λ (n : ℕ). bit_at n k ≡ 1 → bit_and mask (other k) < n) c.self.view_is
    (λ set. less mask (bit_and mask (other k)) k (and_le_l mask (other k)) set (bit_at_clear_same w64 mask k c.requires))

pub returns-clause-cleared : goal.returns-clause-cleared
returns-clause-cleared c = bit_at_clear_same w64 c.self.inside.word c.args.place c.requires

pub returns-clause-others : goal.returns-clause-others
returns-clause-others c =
    λ i is. stays c.self.inside.word c.args.place i (search rules) c.requires is ∙ ap (λ (n : ℕ). bit_at n i) c.self.view_is
