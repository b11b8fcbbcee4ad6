-- Seals of two and of three nodes.
use Rattle.std.proofs.Common.{ℕ, zero, suc, ◌<◌, [], ◌∷◌, arith}
use Rattle.std.specs.List.{AllPairs}
use Rattle.link_trace.specs.Masks.{AreNodes}

pub two_nodes : (a b : ℕ) → a < b → AreNodes (a ∷ b ∷ [])
two_nodes a b less = record { some = omega arith; few = omega arith; ascending = pairs }
  where
    pairs : AllPairs (λ x y. x < y) (a ∷ b ∷ [])
    pairs zero zero d before inside = absurd (omega arith)
    pairs zero (suc zero) d before inside = less
    pairs zero (suc (suc j)) d before inside = absurd (omega arith)
    pairs (suc i) j d before inside = absurd (omega arith)

pub three_nodes : (a b c : ℕ) → a < b → b < c → AreNodes (a ∷ b ∷ c ∷ [])
three_nodes a b c less next = record { some = omega arith; few = omega arith; ascending = pairs }
  where
    pairs : AllPairs (λ x y. x < y) (a ∷ b ∷ c ∷ [])
    pairs zero zero d before inside = absurd (omega arith)
    pairs zero (suc zero) d before inside = less
    pairs zero (suc (suc zero)) d before inside = omega arith
    pairs zero (suc (suc (suc j))) d before inside = absurd (omega arith)
    pairs (suc zero) zero d before inside = absurd (omega arith)
    pairs (suc zero) (suc zero) d before inside = absurd (omega arith)
    pairs (suc zero) (suc (suc zero)) d before inside = next
    pairs (suc zero) (suc (suc (suc j))) d before inside = absurd (omega arith)
    pairs (suc (suc i)) j d before inside = absurd (omega arith)
