use Rattle.std.proofs.Common.{◌≡◌, ◌<◌, ℕ, w64, sym, subst, rules}
use Rattle.std.specs.Int.{bit_at, trailing_zeros}
use Rattle.std.proofs.lemmas.Nat.Bits.{bit_at-trailing_zeros}
use Rattle.link_trace.proofs.node_set.NodeSet.lowest.Goals as goal

pub returns-clause-set : goal.returns-clause-set
returns-clause-set c =
    subst (λ (n : ℕ). bit_at n (trailing_zeros w64 c.self.inside.word) ≡ 1) c.self.view_is
    (bit_at-trailing_zeros w64 c.self.inside.word (subst (λ (n : ℕ). 0 < n) (sym c.self.view_is) c.requires) (search rules)).1

pub returns-clause-first : goal.returns-clause-first
returns-clause-first c =
    subst (λ (n : ℕ). (i : ℕ) → i < trailing_zeros w64 c.self.inside.word → bit_at n i ≡ 0) c.self.view_is
    (bit_at-trailing_zeros w64 c.self.inside.word (subst (λ (n : ℕ). 0 < n) (sym c.self.view_is) c.requires) (search rules)).2
