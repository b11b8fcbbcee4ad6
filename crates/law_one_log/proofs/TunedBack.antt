-- Up to a tick a log has its nodes tuned as the devices of their trails were before that tick.
use Rattle.std.proofs.Common.{◌≡◌, ℕ, zero, suc, ◌<◌, ◌≤◌, ◌↔◌, inl, inr, List, true, ◌==◌, None, Contains, sym, subst, arith}
use Rattle.std.proofs.lemmas.Bool.{cases_lt, eqb-true}
use Rattle.std.proofs.lemmas.List.Sorted.{Contains-permutation}
use Rattle.radio_model.specs.OnAir.{Tuning}
use Rattle.radio_model.specs.Hearing.{IsTuned}
use Rattle.scenario_text.specs.ScenarioParts.{ScenarioParts}
use Rattle.scenario_text.specs.FloodParts.{knows}
use Rattle.air_log.specs.declared.entry.Entry.{Entry}
use Rattle.air_log.specs.Entries.{tunings_of}
use Rattle.air_log.specs.HearsAir.{scene_of}
use Rattle.air_log.specs.Lawful.{FollowsTrails, heard_by}
use Rattle.air_log.specs.Trails.{Reception, run_end, before_tick, trail}
use Rattle.lwb_base.proofs.Elements.{filtered}
use Rattle.air_log.proofs.TunedBefore.{TunedAt, silenced_stays, tick_by}
use Rattle.law_trails.proofs.SentInTrails.{holds_if}
use Rattle.law_trails.proofs.TunedInTrails.{Tuned, step_stays, tuned_there}

module _ (s : ScenarioParts) (v : ℕ) (clock : ℕ → ℕ) (hs : List Reception) where
  back : (t u : ℕ) → t ≤ u → (r k : ℕ) → k < t → Tuned s v clock hs u r k ↔ Tuned s v clock hs t r k
  back t zero order r k below = absurd (omega (arith, order, below))
  back t (suc u) order r k below =
      elim (cases_lt u t) [
        | inl at ↦
            let same : t ≡ suc u = omega (arith, order, at) in
            (λ is. subst (λ (m : ℕ). Tuned s v clock hs m r k) (sym same) is, λ is. subst (λ (m : ℕ). Tuned s v clock hs m r k) same is)
        | inr before ↦
            let step = (step_stays s v clock hs u).same r k (omega (arith, before, below)) in
            let rest = back t u before r k below in
            (λ is. rest.0 (step.0 is), λ is. step.1 (rest.1 is))
      ]

  -- the tuning that lasts at the end of the run ends with it
  at_the_end : (r k : ℕ) → k < run_end s → TunedAt (trail s v clock hs).made.tuned None r k ↔ Tuned s v clock hs (run_end s) r k
  at_the_end r k below = (silenced_stays v (run_end s) (before_tick s v clock hs (run_end s)) (tick_by s v clock hs (run_end s))).same r k below

  in_trail : (t r k : ℕ) → k < t → t ≤ run_end s → TunedAt (trail s v clock hs).made.tuned None r k ↔ Tuned s v clock hs t r k
  in_trail t r k below within =
      let end = at_the_end r k (omega (arith, below, within)) in
      let earlier = back t (run_end s) within r k below in
      (λ is. earlier.0 (end.0 is), λ is. end.1 (earlier.1 is))

module _ (s : ScenarioParts) (clocks : ℕ → ℕ → ℕ) (air : List Entry) (follows : FollowsTrails s clocks air) where
  pub tuned_here : (v : ℕ) → knows s.nodes v ≡ true → (e : Tuning) → Contains (trail s v (clocks v) (heard_by air v)).made.tuned e
      → Contains (tunings_of air) e × (e.node ≡ v)
  tuned_here v known e there =
      let all = holds_if (knows s.nodes v) (trail s v (clocks v) (heard_by air v)).made.tuned e known there in
      let both = filtered (λ (d : Tuning). d.node == v) (tunings_of air) e (Contains-permutation _ _ e (follows.tuned v) all) in
      (both.0, eqb-true e.node v both.1)

  module _ (v r k t : ℕ) (below : k < t) (within : t ≤ run_end s) where
    pub by_device : IsTuned (scene_of s.profile s.trace air) v r k → (knows s.nodes v ≡ true) × Tuned s v (clocks v) (heard_by air v) t r k
    by_device is =
        let there = tuned_there s clocks air follows v is.tuning is.there is.node in (
          there.0,
          (in_trail s v (clocks v) (heard_by air v) t r k below within).0
              (inl (is.tuning, there.1, record { rank = is.rank; since = is.since; until = is.until })),
        )

    pub by_log : knows s.nodes v ≡ true → Tuned s v (clocks v) (heard_by air v) t r k → IsTuned (scene_of s.profile s.trace air) v r k
    by_log known is =
        elim ((in_trail s v (clocks v) (heard_by air v) t r k below within).1 is) [
          | inl over ↦
              let here = tuned_here v known over.0 over.1 in
              record { tuning = over.0; there = here.0; node = here.1; rank = over.2.rank; since = over.2.since; until = over.2.until }
          | inr none ↦ absurd none
        ]
