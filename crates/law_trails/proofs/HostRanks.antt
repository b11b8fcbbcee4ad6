-- A host is of its rank and of no other.
use Rattle.std.proofs.Common.{◌≡◌, ◌≢◌, ℕ, ◌↔◌, Bool, ◌==◌, List, length, get_or, AllPairs, Some, refl, sym, ◌∙◌, ap, arith, lt-ltb}
use Rattle.std.specs.List.{position, position_or_len, slice_get}
use Rattle.std.proofs.lemmas.Bool.{eqb-true, eq-eqb}
use Rattle.std.proofs.lemmas.List.Quantifiers.{position-Some}
use Rattle.std.proofs.lemmas.Option.{slice_get-get_or, slice_get_within, get_or_from_slice_get}
use Rattle.scenario_text.specs.ScenarioParts.{ScenarioParts}
use Rattle.scenario_text.specs.ScenarioFacts.{IsSoundScenario}
use Rattle.bus_rules.specs.Cores.{own_rank}
use Rattle.std.proofs.lemmas.Bool.{ne_eqb}
use Rattle.std.proofs.lemmas.List.Sums.{position_or_len_is}

module _ (hosts : List ℕ) (differ : AllPairs (λ a b. a ≢ b) hosts) (v rank : ℕ) where
  abbrev is_own : ℕ → Bool
  is_own h = h == v

  named : position is_own hosts ≡ Some rank → slice_get hosts rank ≡ Some v
  named at =
      let found = position-Some is_own hosts rank v at in
      slice_get-get_or hosts rank v found.0 ∙ ap (λ (h : ℕ). Some h) (eqb-true (get_or hosts rank v) v found.1)

  known : slice_get hosts rank ≡ Some v → position is_own hosts ≡ Some rank
  known at =
      let below = slice_get_within hosts rank v at in
      let here : (d : ℕ) → get_or hosts rank d ≡ v = λ d. get_or_from_slice_get hosts rank v d at in
      let first : position_or_len is_own hosts ≡ rank = position_or_len_is is_own hosts rank 0 (omega (arith, below))
      (λ k less. ne_eqb (get_or hosts k 0) v (λ same. differ k rank 0 less below (same ∙ sym (here 0))))
      (λ less. eq-eqb (get_or hosts rank 0) v (here 0)) in
      rw (first, lt-ltb rank (length hosts) below) refl

pub host_is_of_rank : (s : ScenarioParts) → IsSoundScenario s → (v rank : ℕ) → (own_rank v s.hosts ≡ Some rank) ↔ (slice_get s.hosts rank ≡ Some v)
host_is_of_rank s sound v rank = (named s.hosts sound.hosts_differ v rank, known s.hosts sound.hosts_differ v rank)
