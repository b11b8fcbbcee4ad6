use Rattle.std.proofs.Common.{◌≡◌, ℕ, ◌-◌, ◌<◌, ◌^◌, min, bit_and, w64, ◌∙◌, ap, arith, inl, inr, rules}
use Rattle.std.specs.Int.{bit_at, bit_not}
use Rattle.std.proofs.lemmas.Bool.{cases_lt}
use Rattle.std.proofs.lemmas.Nat.Bits.{bit_at_and, bit_at_not, bit_at_above}
use Rattle.std.proofs.Math.Nat.{min-le_left}
use Rattle.link_trace.proofs.node_set.NodeSet.except.Goals as goal

-- a word has no bit past its own, with another or without
left_of : (a b i : ℕ) → a < 2 ^ 64 → b < 2 ^ 64 → bit_at (bit_and a (bit_not w64 b)) i ≡ min (bit_at a i) (1 - bit_at b i)
left_of a b i a_small b_small = elim (cases_lt i 64) [
  | inl near ↦ bit_at_and a (bit_not w64 b) i ∙ ap (min (bit_at a i)) (bit_at_not w64 b i b_small near)
  | inr far ↦
      let none : bit_at a i ≡ 0 = bit_at_above a 64 i a_small far in
      let both : bit_at (bit_and a (bit_not w64 b)) i ≡ min (bit_at a i) (bit_at (bit_not w64 b) i) = bit_at_and a (bit_not w64 b) i in
      omega (arith, none, both, min-le_left (bit_at a i) (bit_at (bit_not w64 b) i), min-le_left (bit_at a i) (1 - bit_at b i))
]

pub returns : goal.returns
returns c =
    λ i.
    left_of c.self.inside.word c.other.inside.word i (search rules) (search rules)
    ∙ ap (λ (n : ℕ). min (bit_at n i) (1 - bit_at c.other.inside.word i)) c.self.view_is
    ∙ ap (λ (n : ℕ). min (bit_at c.args.self i) (1 - bit_at n i)) c.other.view_is
