-- While a device listens, its node is tuned by the log.
use Rattle.std.proofs.Common.{◌≡◌, ℕ, zero, suc, ◌<◌, ◌≤◌, inl, inr, List, true, ◌==◌, Some, None, Option, Contains, refl, subst, arith, eqb-true, IfSome}
use Rattle.std.proofs.lemmas.Bool.{cases_lt}
use Rattle.std.proofs.lemmas.List.Sorted.{Contains-permutation}
use Rattle.radio_model.specs.OnAir.{Tuning}
use Rattle.radio_model.specs.Hearing.{IsTuned}
use Rattle.scenario_text.specs.ScenarioParts.{ScenarioParts}
use Rattle.scenario_text.specs.FloodParts.{knows}
use Rattle.air_log.specs.declared.entry.Entry.{Entry}
use Rattle.air_log.specs.Entries.{tunings_of}
use Rattle.air_log.specs.HearsAir.{scene_of}
use Rattle.air_log.specs.Devices.{Listening}
use Rattle.air_log.specs.Lawful.{FollowsTrails, heard_by, tuned_by}
use Rattle.air_log.specs.TunedTimes.{listened}
use Rattle.air_log.specs.Trails.{Reception, run_end, before_tick, trail}
use Rattle.air_log.proofs.TunedBefore.{silenced_stays, tick_by}
use Rattle.law_trails.specs.Obeying.{channel_if_on}
use Rattle.law_trails.specs.TrailLinks.{device_in}
use Rattle.law_trails.proofs.SentInTrails.{holds_if}
use Rattle.law_trails.proofs.TunedInTrails.{Tuned, step_stays}
use Rattle.lwb_base.proofs.Elements.{filtered}

module _ (s : ScenarioParts) (v : ℕ) (clock : ℕ → ℕ) (hs : List Reception) where
  later : (t u : ℕ) → t ≤ u → (r k : ℕ) → k < t → Tuned s v clock hs t r k → Tuned s v clock hs u r k
  later t zero order r k below is = absurd (omega (arith, order, below))
  later t (suc u) order r k below is =
      elim (cases_lt u t) [
        | inl at ↦ subst (λ (m : ℕ). Tuned s v clock hs m r k) (omega (arith, order, at)) is
        | inr before ↦ ((step_stays s v clock hs u).same r k (omega (arith, before, below))).1 (later t u before r k below is)
      ]

  -- a device that listens has done so since its last tick at the latest
  since_by : (k r : ℕ) (l : Option Listening) → (before_tick s v clock hs (suc k)).listening ≡ l → channel_if_on l ≡ Some r → listened r k l
  since_by k r None is on = absurd cc
  since_by k r (Some l) is on =
      let all = (step_stays s v clock hs k).by.since in
      let since : l.since ≤ k = subst (λ (o : Option Listening). IfSome o (λ l. l.since ≤ k)) is all in
      let same : l.rank ≡ r = cc in
      (same, since)

  pub in_trail : (k r : ℕ) → k < run_end s → channel_if_on (before_tick s v clock hs (suc k)).listening ≡ Some r
      → (e : Tuning) × Contains (trail s v clock hs).made.tuned e × (e.rank ≡ r) × (e.start ≤ k) × (k < e.end)
  in_trail k r below on =
      let d = before_tick s v clock hs (suc k) in
      let now : Tuned s v clock hs (suc k) r k = inr (since_by k r d.listening refl on) in
      let e = before_tick s v clock hs (run_end s) in
      let off = silenced_stays v (run_end s) e (tick_by s v clock hs (run_end s)) in
      elim ((off.same r k below).1 (later (suc k) (run_end s) (omega (arith, below)) r k (omega arith) now)) [
        | inl is ↦ (is.0, is.1, is.2.rank, is.2.since, is.2.until)
        | inr none ↦ absurd none
      ]

module _ (s : ScenarioParts) (clocks : ℕ → ℕ → ℕ) (air : List Entry) (follows : FollowsTrails s clocks air) where
  pub listens_tuned : (v rank k : ℕ) → knows s.nodes v ≡ true → k < run_end s → channel_if_on (device_in s clocks air v (suc k)).listening ≡ Some rank
      → IsTuned (scene_of s.profile s.trace air) v rank k
  listens_tuned v rank k known below on =
      let hs = heard_by air v in
      let is = in_trail s v (clocks v) hs k rank below on in
      let e = is.0 in
      let own : Contains (tuned_by air v) e = Contains-permutation _ _ e (follows.tuned v)
      (holds_if (knows s.nodes v) (trail s v (clocks v) hs).made.tuned e known is.1) in
      let both = filtered (λ (y : Tuning). y.node == v) (tunings_of air) e own in
      record { tuning = e; there = both.0; node = eqb-true e.node v both.1; rank = is.2; since = is.3; until = is.4 }
