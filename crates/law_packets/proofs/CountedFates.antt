-- Each fate is one of the four, so the counts of a stream add up.
use Rattle.std.proofs.Common.{◌≡◌, ℕ, ◌+◌, List, [], ◌∷◌, Bool, true, false, ◌&&◌, ◌==◌, cond, count_by, refl, arith}
use Rattle.std.proofs.lemmas.List.Sums.{sum_by-cons}
use Rattle.scenario_text.specs.ScenarioParts.{ScenarioParts}
use Rattle.bus_terms.specs.Fates.{bus_fates, counts_of, of_stream, is_dropped, is_sent, is_waiting, is_cleared}
use Rattle.bus_terms.specs.declared.packets.Fate.{Fate}
use Rattle.bus_terms.specs.declared.packets.Fate.TheVariants.{Dropped, Waiting, Cleared, Sent}
use Rattle.bus_terms.specs.declared.packets.PutFate.{PutFate}

abbrev one : (Fate → Bool) → Bool → Bool → Fate → ℕ
one test a b fate = cond (a && b && test fate) 1 0

one_fate : (a b : Bool) (fate : Fate)
    → one (λ x. true) a b fate ≡ one is_dropped a b fate + one is_sent a b fate + one is_waiting a b fate + one is_cleared a b fate
one_fate false b fate = refl
one_fate true false fate = refl
one_fate true true Dropped = refl
one_fate true true Waiting = refl
one_fate true true (Cleared frame) = refl
one_fate true true (Sent frame rank slot receivers at_host) = refl

abbrev many : ℕ → ℕ → (Fate → Bool) → List PutFate → ℕ
many v i test fates = count_by (of_stream v i test) fates

all_fates : (v i : ℕ) (fates : List PutFate)
    → many v i (λ x. true) fates ≡ many v i is_dropped fates + many v i is_sent fates + many v i is_waiting fates + many v i is_cleared fates
all_fates v i [] = refl
all_fates v i (x ∷ xs) =
    let here = one_fate (x.put.node == v) (x.put.stream == i) x.fate in
    let any = more (λ fate. true) in
    let dropped = more is_dropped in
    let sent = more is_sent in
    let waiting = more is_waiting in
    let cleared = more is_cleared in
    omega (arith, here, any, dropped, sent, waiting, cleared, all_fates v i xs)
  where
    more : (test : Fate → Bool) → many v i test (x ∷ xs) ≡ one test (x.put.node == v) (x.put.stream == i) x.fate + many v i test xs
    more test = sum_by-cons (λ (y : PutFate). cond (of_stream v i test y) 1 0) x xs

pub counts_sum : (s : ScenarioParts) (v i : ℕ)
    → (counts_of s v i).put ≡ (counts_of s v i).dropped + (counts_of s v i).sent + (counts_of s v i).waiting + (counts_of s v i).cleared
counts_sum s v i = all_fates v i (bus_fates s)
