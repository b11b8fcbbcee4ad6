-- A relation of each element and each later one, by places and by recursion.
use Rattle.std.proofs.Common.{suc, List, [], ◌∷◌, arith}
use Rattle.std.proofs.lemmas.List.Elements.{All-from_recursion, recursion_from_All}
use Rattle.std.proofs.lemmas.List.Kept.{AllPairs-cons}
use Rattle.std.specs.List.{AllPairs}
use Rattle.scenario_text.specs.FloodDrafts.{Climbs}

pub climbs_pairs : {A : Type 0} (R : A → A → Type 0) (xs : List A) → Climbs R xs → AllPairs R xs
climbs_pairs R [] climbs i j d before within = absurd (omega arith)
climbs_pairs R (x ∷ xs) climbs i j d before within =
    AllPairs-cons R x xs (All-from_recursion (R x) xs climbs.0) (climbs_pairs R xs climbs.1) i j d before within

pub pairs_climb : {A : Type 0} (R : A → A → Type 0) (xs : List A) → AllPairs R xs → Climbs R xs
pairs_climb R [] pairs = tt
pairs_climb R (x ∷ xs) pairs = (
  recursion_from_All (R x) xs (λ k d within. pairs 0 (suc k) d (omega arith) (omega arith)),
  pairs_climb R xs (λ i j d before within. pairs (suc i) (suc j) d (omega arith) (omega arith)),
)
