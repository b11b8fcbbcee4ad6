-- Nodes that scan a rank for few enough frames are members after its next round in which nothing is lost.
use Rattle.std.proofs.Common.{◌≡◌, ◌≤◌, ◌+◌, ◌-◌, ℕ, zero, suc, List, inl, inr, refl, sym, ◌∙◌, subst, arith, ◌⊎◌}
use Rattle.law_times.proofs.Words.{IsOverScenario, ScenarioParts, IsSoundScenario, over_sound, Scan, Hold, Host, has, AwaitRound, ScannersReturn, IsGroup}
use Rattle.law_times.proofs.Words.{IsLossless}
use Rattle.law_times.proofs.Words.{AreMembers, HasTune, IsTuned}
use Rattle.law_times.proofs.FramesLeft.{goes_range}
use Rattle.law_times.proofs.KeptMembers.{of_members, Waiting, Waits, waiting_joins, waiting_quiet}
use Rattle.law_times.proofs.QuietFrames.{Goes}
use Rattle.law_times.proofs.TuneSteps.{tune_goes, tuned_goes}
use Rattle.law_times.proofs.WaitingNodes.{same_waiting}

module _ (s : ScenarioParts) (accepted : IsOverScenario s) (rank host f due e : ℕ) (among : List ℕ) (group : IsGroup s host f e among)
    (await : AwaitRound s rank f due host among) where
  abbrev scenario : IsSoundScenario s
  scenario = over_sound s accepted

  hosts : Goes s f host (Host rank due) await.plan
  hosts = tuned_goes s scenario f host (Host rank due) await.plan await.hosts

  pub range : (f ≤ due) × (due ≤ f + 3)
  range = goes_range s scenario f host (Host rank due) await.plan hosts

  first : (w : Waiting s rank f host among 12) × (w.due ≡ due)
  first = (
    record {
      due = due;
      range = (let is = range in (omega (arith, is), omega (arith, is)));
      plan = await.plan;
      hosts = hosts;
      wait = λ v there other. waits v (await.wait v there other);
    },
    refl,
  )
    where
      waits : (v : ℕ) → IsTuned s f v (Hold rank due) await.plan ⊎ ((w : ℕ) × (w ≤ 8) × HasTune s f v (Scan rank w)) → Waits s rank f due await.plan 12 v
      waits v (inl holds) = inl (tuned_goes s scenario f v (Hold rank due) await.plan holds)
      waits v (inr (w, few, has)) =
          let goes = tune_goes s scenario f v (Scan rank w) has in
          let is = range in
          inr (w, goes.0, goes.1, omega (arith, few, is))

  until : (n : ℕ) → n + f ≤ due → n + f ≤ e → (w : Waiting s rank (n + f) host among 12) × (w.due ≡ due)
  until zero early within =
      let same = same_waiting s rank host among f (0 + f) 12 12 (omega arith) refl first.0 in
      (same.0, same.1 ∙ first.1)
  until (suc n) early within =
      let before = until n (omega (arith, early)) (omega (arith, within)) in
      let due_is = before.1 in
      let one = waiting_quiet s accepted rank host f e among group (n + f) 12 (omega arith) (omega (arith, within)) (omega arith) before.0
      (omega (arith, due_is, early)) in
      let same = same_waiting s rank host among (suc (n + f)) (suc n + f) 12 12 (omega arith) refl one.0 in
      (same.0, same.1 ∙ one.1 ∙ before.1)

pub scanners_return : ScannersReturn
scanners_return s accepted rank host f due e among group await within none =
    let is = range s accepted rank host f due e among group await in
    let n : ℕ = due - f in
    let at : n + f ≡ due = omega (arith, is) in
    let last = until s accepted rank host f due e among group await n (omega (arith, at)) (omega (arith, at, within)) in
    let joined = waiting_joins s accepted rank host f e among group (n + f) 12 (omega arith) (omega (arith, at, within)) (omega arith) last.0 (last.1 ∙ sym at)
    (subst (IsLossless s) (sym at) none) in
    subst (λ (g : ℕ). AreMembers s rank g host among) (omega (arith, at)) (of_members s accepted rank host f e among group (suc (n + f)) joined)
