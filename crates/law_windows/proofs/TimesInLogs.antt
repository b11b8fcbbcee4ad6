-- How long a radio was on, by the tunings of a valid log.
use Rattle.std.proofs.Common.{◌≡◌, ℕ, suc, ◌+◌, ◌<◌, ◌≤◌, ◌⊎◌, inl, inr, List, [], ◌∷◌, All, Contains, ◌==◌, true, sum_by, refl, sym, ◌∙◌, subst}
use Rattle.std.proofs.Common.{arith, eq-eqb, eqb-true}
use Rattle.std.specs.Prelude.{IsPermutation}
use Rattle.std.proofs.lemmas.Bool.{cases_lt, cond-true}
use Rattle.std.proofs.lemmas.List.Elements.{All-head, All-tail}
use Rattle.std.proofs.lemmas.List.Sorted.{Contains-permutation, IsPermutation-sym, sum_by-IsPermutation}
use Rattle.std.proofs.lemmas.List.Sums.{sum_by-cons}
use Rattle.radio_model.specs.Hearing.{IsTuned}
use Rattle.radio_model.specs.OnAir.{Tuning}
use Rattle.scenario_text.specs.FloodParts.{knows}
use Rattle.scenario_text.specs.ScenarioParts.{ScenarioParts}
use Rattle.air_log.specs.declared.entry.Entry.{Entry}
use Rattle.air_log.specs.Entries.{tunings_of}
use Rattle.air_log.specs.HearsAir.{scene_of}
use Rattle.air_log.specs.Lawful.{Lawful, heard_by, trail_in, tuned_by}
use Rattle.air_log.specs.Trails.{run_end}
use Rattle.air_log.specs.TrailEntries.{IsTunedBy}
use Rattle.lwb_base.proofs.Elements.{in_filtered, filtered}
use Rattle.air_log.proofs.TrailTunings.{each_tuned, tuned_in_turn}
use Rattle.air_log.specs.Energies.{tuning_time}
use Rattle.law_windows.specs.ChargeLaws.{OnIsTimeInRun}
use Rattle.law_windows.specs.RadioTimes.{on_within, time_within}
use Rattle.law_windows.proofs.TuningTimes.{within, none_at, one_at, on_then_off}

-- tunings that have ended by a tick last as long as their time up to it
whole_time : (v t : ℕ) (ts : List Tuning) → All (IsTunedBy v t) ts → within 0 t ts ≡ sum_by tuning_time ts
whole_time v t [] each = refl
whole_time v t (e ∷ ts) each =
    let first = sum_by-cons (time_within 0 t) e ts in
    let second = sum_by-cons tuning_time e ts in
    let is = All-head (IsTunedBy v t) e ts each in
    let by = is.by in
    let one : time_within 0 t e ≡ tuning_time e = omega (arith, by) in
    let rest = whole_time v t ts (All-tail (IsTunedBy v t) e ts each) in
    omega (arith, first, second, one, rest)

module _ (s : ScenarioParts) (clocks : ℕ → ℕ → ℕ) (air : List Entry) (lawful : Lawful s clocks air) (v : ℕ) (known : knows s.nodes v ≡ true) where
  abbrev made : List Tuning
  made = (trail_in s clocks air v).made.tuned

  permuted : IsPermutation (trail_in s clocks air v).made.tuned (tuned_by air v)
  permuted =
      subst (λ (ts : List Tuning). IsPermutation ts (tuned_by air v))
      (cond-true (knows s.nodes v) (trail_in s clocks air v).made.tuned [] known) (lawful.trails.tuned v)

  same_sum : (f : Tuning → ℕ) → sum_by f (tuned_by air v) ≡ sum_by f (trail_in s clocks air v).made.tuned
  same_sum f = sum_by-IsPermutation f made (tuned_by air v) permuted

  on_at : (r k : ℕ) → IsTuned (scene_of s.profile s.trace air) v r k → within k (suc k) made ≡ 1
  on_at r k is =
      let there : Contains (tuned_by air v) is.tuning =
      in_filtered (λ (t : Tuning). t.node == v) (tunings_of air) is.tuning is.there (eq-eqb is.tuning.node v is.node) in
      one_at k made is.tuning (tuned_in_turn s v (clocks v) (heard_by air v))
      (Contains-permutation (tuned_by air v) made is.tuning (IsPermutation-sym made (tuned_by air v) permuted) there) is.since is.until

  off_at : (k : ℕ) → ((r : ℕ) → IsTuned (scene_of s.profile s.trace air) v r k → ⊥) → within k (suc k) made ≡ 0
  off_at k off = none_at k made apart
    where
      apart : (t : Tuning) → Contains made t → (t.end ≤ k) ⊎ (k < t.start)
      apart t in_it =
          let both = filtered (λ (t : Tuning). t.node == v) (tunings_of air) t (Contains-permutation made (tuned_by air v) t permuted in_it) in
          elim (cases_lt k t.start) [
            | inl before ↦ inr before
            | inr since ↦ elim (cases_lt k t.end) [
              | inl until ↦ absurd (off t.rank (record {
                tuning = t;
                there = both.0;
                node = eqb-true t.node v both.1;
                rank = refl;
                since = omega (arith, since);
                until = until;
              }))
              | inr past ↦ inl (omega (arith, past))
            ]
          ]

  -- tuned from one tick to another, and from then on not
  pub on_until : (a b c r : ℕ) → a ≤ b → b ≤ c → ((k : ℕ) → a ≤ k → k < b → IsTuned (scene_of s.profile s.trace air) v r k)
      → ((k : ℕ) → b ≤ k → k < c → (r : ℕ) → IsTuned (scene_of s.profile s.trace air) v r k → ⊥) → on_within air v a c + a ≡ b
  on_until a b c r low high on off =
      let same = same_sum (time_within a c) in
      let time = on_then_off a b c made low high (λ k from until. on_at r k (on k from until)) (λ k from until. off_at k (off k from until)) in
      omega (arith, same, time)

  time_of_run : on_within air v 0 (run_end s) ≡ sum_by tuning_time (tuned_by air v)
  time_of_run =
      same_sum (time_within 0 (run_end s))
      ∙ whole_time v (run_end s) made (each_tuned s v (clocks v) (heard_by air v))
      ∙ sym (same_sum tuning_time)

pub on_is_time : OnIsTimeInRun
on_is_time s clocks air lawful v known = time_of_run s clocks air lawful v known
