-- While a node is tuned by the log, its device listens.
use Rattle.std.proofs.Common.{◌≡◌, ℕ, zero, suc, ◌<◌, ◌≤◌, inl, inr, List, true, ◌==◌, Some, None, Option, Contains, refl, subst, arith}
use Rattle.std.proofs.lemmas.Bool.{cases_lt, eq-eqb}
use Rattle.std.proofs.lemmas.List.Elements.{All-contains}
use Rattle.std.proofs.lemmas.List.Sorted.{Contains-permutation, IsPermutation-sym}
use Rattle.radio_model.specs.OnAir.{Tuning}
use Rattle.radio_model.specs.Hearing.{IsTuned}
use Rattle.scenario_text.specs.ScenarioParts.{ScenarioParts}
use Rattle.scenario_text.specs.FloodParts.{knows}
use Rattle.air_log.specs.declared.entry.Entry.{Entry}
use Rattle.air_log.specs.Entries.{tunings_of}
use Rattle.air_log.specs.HearsAir.{scene_of}
use Rattle.air_log.specs.Devices.{Device, Listening}
use Rattle.air_log.specs.Lawful.{FollowsTrails, heard_by, tuned_by}
use Rattle.air_log.specs.TrailEntries.{IsTunedBy}
use Rattle.air_log.specs.TunedTimes.{listened}
use Rattle.scenario_text.specs.Setups.{setup_of}
use Rattle.air_log.specs.Trails.{Reception, run_end, before_start, before_tick, trail}
use Rattle.air_log.proofs.KeptByEvents.{in_tick}
use Rattle.air_log.proofs.TrailTunings.{each_tuned}
use Rattle.air_log.proofs.TunedBefore.{TunedAt, Stays, IsTunedAs, stays_same, stays_on, silenced_stays, kept, As, begun_stays, tick_by}
use Rattle.lwb_base.proofs.Elements.{in_filtered}
use Rattle.law_trails.specs.TrailLinks.{ListensSince, device_in}
use Rattle.law_trails.proofs.SentInTrails.{if_holds}

module _ (s : ScenarioParts) (v : ℕ) (clock : ℕ → ℕ) (hs : List Reception) where
  -- before tick t the device was tuned to r at tick k
  abbrev pub Tuned : ℕ → ℕ → ℕ → Type 0
  Tuned t r k = let d = before_tick s v clock hs t in TunedAt d.made.tuned d.listening r k

  pub step_stays : (t : ℕ) → IsTunedAs t (before_tick s v clock hs t) (before_tick s v clock hs (suc t))
  unfolding before_tick
  step_stays t =
      let d = before_tick s v clock hs t in
      let x = before_start s v clock hs t d in
      let node = setup_of s v in
      let by = stays_same t d.made.tuned d.listening (tick_by s v clock hs t) in
      let within : Stays t d.made.tuned d.listening x.made.tuned x.listening =
      in_tick (As clock node t d.made.tuned d.listening) s v clock hs t d (kept clock node t d.made.tuned d.listening) by in
      stays_on t d.made.tuned d.listening x.made.tuned x.listening _ _ within (begun_stays (setup_of s v) t x within.by)

  earlier : (t u : ℕ) → t ≤ u → (r k : ℕ) → k < t → Tuned u r k → Tuned t r k
  earlier t zero order r k below is = absurd (omega (arith, order, below))
  earlier t (suc u) order r k below is =
      elim (cases_lt u t) [
        | inl at ↦ subst (λ (m : ℕ). Tuned m r k) (omega (arith, order, at)) is
        | inr before ↦ earlier t u before r k below (((step_stays u).same r k (omega (arith, before, below))).0 is)
      ]

  heard_on : (r k : ℕ) (l : Option Listening) (d : Device) → d.listening ≡ l → listened r k l → ListensSince r k d
  heard_on r k None d at is = absurd is
  heard_on r k (Some l) d at is = record { listening = l; is = at; channel = is.0; since = is.1 }

  pub listens : (r k : ℕ) → k < run_end s → Tuned (run_end s) r k → ListensSince r k (before_tick s v clock hs (suc k))
  listens r k below is =
      let d = before_tick s v clock hs (suc k) in
      elim (earlier (suc k) (run_end s) (omega (arith, below)) r k (omega arith) is) [
        | inl over ↦ (let until = over.2.until in let by = (step_stays k).by.ended over.0 over.1 in absurd (omega (arith, until, by.1)))
        | inr on ↦ heard_on r k d.listening d refl on
      ]

  in_trail : (e : Tuning) → Contains (trail s v clock hs).made.tuned e → (k : ℕ) → e.start ≤ k → k < e.end
      → ListensSince e.rank k (before_tick s v clock hs (suc k))
  in_trail e there k from until =
      let all = All-contains (IsTunedBy v (run_end s)) (trail s v clock hs).made.tuned e (each_tuned s v clock hs) there in
      let by = all.by in
      let below : k < run_end s = omega (arith, by, until) in
      let d = before_tick s v clock hs (run_end s) in
      let off = silenced_stays v (run_end s) d (tick_by s v clock hs (run_end s)) in
      listens e.rank k below ((off.same e.rank k below).0 (inl (e, there, record { rank = refl; since = from; until = until })))

module _ (s : ScenarioParts) (clocks : ℕ → ℕ → ℕ) (air : List Entry) (follows : FollowsTrails s clocks air) where
  pub tuned_there : (v : ℕ) (e : Tuning) → Contains (tunings_of air) e → e.node ≡ v
      → (knows s.nodes v ≡ true) × Contains (trail s v (clocks v) (heard_by air v)).made.tuned e
  tuned_there v e there node =
      let own : Contains (tuned_by air v) e = in_filtered (λ (y : Tuning). y.node == v) (tunings_of air) e there (eq-eqb e.node v node) in
      if_holds (knows s.nodes v) (trail s v (clocks v) (heard_by air v)).made.tuned e (Contains-permutation _ _ e (IsPermutation-sym _ _ (follows.tuned v)) own)

  pub tuned_known : (e : Tuning) → Contains (tunings_of air) e → knows s.nodes e.node ≡ true
  tuned_known e there = (tuned_there e.node e there refl).0

  pub tuned_in_run : (v rank k : ℕ) → IsTuned (scene_of s.profile s.trace air) v rank k → k < run_end s
  tuned_in_run v rank k is =
      let hs = heard_by air v in
      let there = (tuned_there v is.tuning is.there is.node).1 in
      let all = All-contains (IsTunedBy v (run_end s)) (trail s v (clocks v) hs).made.tuned is.tuning (each_tuned s v (clocks v) hs) there in
      let by = all.by in
      let until = is.until in
      omega (arith, by, until)

  pub tuned_listens : (v rank k : ℕ) → IsTuned (scene_of s.profile s.trace air) v rank k → ListensSince rank k (device_in s clocks air v (suc k))
  tuned_listens v rank k is =
      subst (λ (r : ℕ). ListensSince r k (device_in s clocks air v (suc k))) is.rank
      (in_trail s v (clocks v) (heard_by air v) is.tuning (tuned_there v is.tuning is.there is.node).1 k is.since is.until)
