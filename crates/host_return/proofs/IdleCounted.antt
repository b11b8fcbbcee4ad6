-- In how many frames a node is idle, by where it is listed.
use Rattle.std.proofs.Common.{◌≡◌, ℕ, zero, suc, ◌+◌, ◌<◌, List, [], ◌∷◌, Bool, true, false, cond, ◌&&◌, ◌||◌, ◌==◌, nat_lt, if◌then◌else◌}
use Rattle.std.proofs.Common.{filter_map, count_by, is_some, map, Option, Some, None, refl, sym, ◌∙◌, ap, arith, add-one}
use Rattle.std.specs.Prelude.{◌%◌, ◌^◌, AllPairs, Contains}
use Rattle.std.specs.List.{cons_option, range_with_len}
use Rattle.std.specs.Option.{option_map}
use Rattle.std.proofs.lemmas.Bool.{eqb-true, eq-eqb}
use Rattle.std.proofs.lemmas.List.FromFn.{length-range_with_len}
use Rattle.std.proofs.lemmas.List.Sums.{sum_by-append, sum_by-cons, count_by-le-length}
use Rattle.lwb_base.proofs.Elements.{any_of, contains_head, contains_tail, pairs_head, pairs_tail}
use Rattle.lwb_base.proofs.Lists.{count_next}
use Rattle.bus_rules.specs.declared.tune.Tune.{Tune}
use Rattle.bus_rules.specs.declared.tune.Tune.TheVariants.{Scan, Hold, Host}
use Rattle.scenario_text.specs.FloodParts.{knows}
use Rattle.scenario_text.specs.ScenarioFacts.{IsSoundScenario}
use Rattle.scenario_text.specs.ScenarioGrammar.{IsScenario}
use Rattle.scenario_text.specs.ScenarioParts.{ScenarioParts}
use Rattle.scenario_text.proofs.SoundScenarios.{sound}
use Rattle.scenario_text.specs.declared.lines.NodeLine.{NodeLine}
use Rattle.scenario_clocks.specs.StatedClocks.{scenario_clock}
use Rattle.air_log.specs.declared.entry.Entry.{Entry}
use Rattle.air_log.specs.Idling.{idle_with, idle_node, idle_at, idle_in, idle_before}
use Rattle.air_log.specs.declared.idle.Idle.{Idle}
use Rattle.air_log.proofs.IdleFrames.{frames_more}
use Rattle.host_return.specs.Probes.{probed_with, probed_rank, probes, idle_of}
use Rattle.host_return.specs.Returned.{counts_in}
use Rattle.host_return.proofs.IdleInRuns.{tune_in}

-- those of node v
abbrev pub is_of : ℕ → Idle → Bool
is_of v i = i.node == v

abbrev as_one : Bool → ℕ
as_one b = cond b 1 0

-- a node with a tune is idle where it probes
idle_probes : (f : ℕ) (tune : Option Tune) → is_some (idle_with f tune) ≡ is_some (probed_with f tune)
idle_probes f None = refl
idle_probes f (Some (Scan r waited)) = refl
idle_probes f (Some (Hold r due)) = refl
idle_probes f (Some (Host r due)) = by_test (nat_lt 0 r && nat_lt f due)
  where
    hosted : Bool → Option ℕ
    hosted b = if b then Some r else None

    probed : Bool → Option ℕ
    probed b = if b then Some (f % r) else None

    by_test : (b : Bool) → is_some (hosted b) ≡ is_some (probed b)
    by_test true = refl
    by_test false = refl

module _ (v : ℕ) where
  abbrev tally : Option Idle → ℕ
  tally None = 0
  tally (Some i) = as_one (is_of v i)

  counted : (o : Option Idle) (rest : List Idle) → count_by (is_of v) (cons_option o rest) ≡ tally o + count_by (is_of v) rest
  counted None rest =
      let none : tally None ≡ 0 = refl in
      let same : count_by (is_of v) (cons_option None rest) ≡ count_by (is_of v) rest = refl in
      omega (arith, none, same)
  counted (Some i) rest = sum_by-cons (λ (j : Idle). cond (is_of v j) 1 0) i rest

  tally_of : (f u : ℕ) (o : Option ℕ) → tally (option_map (idle_node f u) o) ≡ cond (is_some o) (as_one (u == v)) 0
  tally_of f u None = refl
  tally_of f u (Some rank) = refl

module _ (s : ScenarioParts) (air : List Entry) (v : ℕ) where
  one_at : (f : ℕ) (n : NodeLine) (b : Bool) → (n.node == v) ≡ b
      → tally v (idle_at s (scenario_clock s) air f n) ≡ cond (is_some (probed_rank s air f n.node)) (as_one b) 0
  one_at f n b is =
      tally_of v f n.node (idle_with f (tune_in s air f n.node))
      ∙ ap (λ (c : Bool). cond c (as_one (n.node == v)) 0) (idle_probes f (tune_in s air f n.node))
      ∙ ap (λ (c : Bool). cond (is_some (probed_rank s air f n.node)) (as_one c) 0) is

  zero_both : (b : Bool) → ◌≡◌ {A = ℕ} (cond b 0 0) 0
  zero_both true = refl
  zero_both false = refl

  none_of_it : (f : ℕ) (ns : List NodeLine) → ((n : NodeLine) → Contains ns n → n.node ≡ v → ⊥)
      → count_by (is_of v) (filter_map (idle_at s (scenario_clock s) air f) ns) ≡ 0
  none_of_it f [] other = refl
  none_of_it f (n ∷ ns) other =
      let rest = none_of_it f ns (λ m there. other m (contains_tail n ns m there)) in
      let step = counted v (idle_at s (scenario_clock s) air f n) (filter_map (idle_at s (scenario_clock s) air f) ns) in
      let not_it : (n.node == v) ≡ false = by (n.node == v) refl in
      let one = one_at f n false not_it ∙ zero_both (is_some (probed_rank s air f n.node)) in
      omega (arith, rest, step, one)
    where
      by : (b : Bool) → (n.node == v) ≡ b → (n.node == v) ≡ false
      by true is = absurd (other n (contains_head n ns) (eqb-true n.node v is))
      by false is = is

  one_of_it : (f : ℕ) (ns : List NodeLine) → AllPairs (λ (a b : NodeLine). a.node < b.node) ns → knows ns v ≡ true
      → count_by (is_of v) (filter_map (idle_at s (scenario_clock s) air f) ns) ≡ as_one (is_some (probed_rank s air f v))
  one_of_it f [] ascend known = absurd (cc)
  one_of_it f (n ∷ ns) ascend known =
      by (one_of_it f ns (pairs_tail (λ (a b : NodeLine). a.node < b.node) n ns ascend)) (n.node == v) refl known
    where
      step : count_by (is_of v) (filter_map (idle_at s (scenario_clock s) air f) (n ∷ ns))
          ≡ tally v (idle_at s (scenario_clock s) air f n) + count_by (is_of v) (filter_map (idle_at s (scenario_clock s) air f) ns)
      step = counted v (idle_at s (scenario_clock s) air f n) (filter_map (idle_at s (scenario_clock s) air f) ns)

      by : (knows ns v ≡ true → count_by (is_of v) (filter_map (idle_at s (scenario_clock s) air f) ns) ≡ as_one (is_some (probed_rank s air f v)))
          → (b : Bool) → (n.node == v) ≡ b → (b || knows ns v) ≡ true
          → count_by (is_of v) (filter_map (idle_at s (scenario_clock s) air f) (n ∷ ns)) ≡ as_one (is_some (probed_rank s air f v))
      by rest true is any =
          let same : n.node ≡ v = eqb-true n.node v is in
          let others = none_of_it f ns (λ m there at. (
          let up = pairs_head (λ (a b : NodeLine). a.node < b.node) n ns ascend m there in omega (arith, up, at, same))) in
          let one = one_at f n true is ∙ ap (λ (u : ℕ). as_one (is_some (probed_rank s air f u))) same in
          omega (arith, step, others, one)
      by rest false is any =
          let later = rest any in
          let one = one_at f n false is ∙ zero_both (is_some (probed_rank s air f n.node)) in
          omega (arith, step, later, one)

  counted_before : AllPairs (λ (a b : NodeLine). a.node < b.node) s.nodes → knows s.nodes v ≡ true → (k : ℕ)
      → count_by (is_of v) (idle_before s (scenario_clock s) air k) ≡ count_by (λ f. is_some (probed_rank s air f v)) (range_with_len 0 k)
  counted_before ascend known zero = refl
  counted_before ascend known (suc k) =
      let test : ℕ → Bool = λ f. is_some (probed_rank s air f v) in
      ap (λ (n : ℕ). count_by (is_of v) (idle_before s (scenario_clock s) air n)) (sym (add-one k))
      ∙ ap (count_by (is_of v)) (frames_more (idle_in s (scenario_clock s) air) k)
      ∙ sum_by-append (λ (j : Idle). cond (is_of v j) 1 0) (idle_before s (scenario_clock s) air k) (idle_in s (scenario_clock s) air k)
      ∙ ap (λ (n : ℕ). n + count_by (is_of v) (idle_in s (scenario_clock s) air k)) (counted_before ascend known k)
      ∙ ap (λ (n : ℕ). count_by test (range_with_len 0 k) + n) (one_of_it k s.nodes ascend known)
      ∙ sym (count_next test k)
      ∙ ap (λ (n : ℕ). count_by test (range_with_len 0 n)) (add-one k)

  pub idle_counted : IsSoundScenario s → knows s.nodes v ≡ true → count_by (is_of v) (idle_of s air) ≡ probes s air v
  idle_counted sound known = counted_before sound.ascending known s.frames

-- a node and its count
abbrev pub count_for : List Idle → NodeLine → ℕ × ℕ
count_for idle n = (n.node, count_by (is_of n.node) idle)

module _ (s : ScenarioParts) (air : List Entry) (said : IsScenario s) (idle : List Idle) (is : idle ≡ idle_of s air) where
  count_is : (n : NodeLine) → Contains s.nodes n → count_by (is_of n.node) idle ≡ probes s air n.node
  count_is n there =
      let known : knows s.nodes n.node ≡ true = any_of (λ (m : NodeLine). m.node == n.node) s.nodes n there (eq-eqb n.node n.node refl) in
      ap (count_by (is_of n.node)) is ∙ idle_counted s air n.node (sound s said) known

  pub few_idle : (n : NodeLine) → Contains s.nodes n → count_by (is_of n.node) idle < 2 ^ 32
  few_idle n there =
      let few = count_by-le-length (λ (f : ℕ). is_some (probed_rank s air f n.node)) (range_with_len 0 s.frames) in
      let long = length-range_with_len 0 s.frames in
      let run = (sound s said).few_frames in
      let count = count_is n there in
      omega (arith, few, long, run, count)

  one_count : (n : NodeLine) → Contains s.nodes n → count_for idle n ≡ (n.node, probes s air n.node)
  one_count n there = ap (λ (k : ℕ). let p : ℕ × ℕ = (n.node, k) in p) (count_is n there)

  pub counts_are : map (count_for idle) s.nodes ≡ counts_in s air
  counts_are = counts_by s.nodes one_count
    where
      counts_by : (ns : List NodeLine) → ((n : NodeLine) → Contains ns n → count_for idle n ≡ (n.node, probes s air n.node))
          → map (count_for idle) ns ≡ map (λ n. (n.node, probes s air n.node)) ns
      counts_by [] same = refl
      counts_by (n ∷ ns) same =
          ap (λ (c : ℕ × ℕ). c ∷ map (count_for idle) ns) (same n (contains_head n ns))
          ∙ ap (λ (cs : List (ℕ × ℕ)). (n.node, probes s air n.node) ∷ cs) (counts_by ns (λ m there. same m (contains_tail n ns m there)))
