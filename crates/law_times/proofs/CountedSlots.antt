-- What a stream has been granted before a frame: what had come due by then, and the slots of the next round.
use Rattle.std.proofs.Common.{◌≡◌, ◌<◌, ◌≤◌, ◌+◌, ◌-◌, ◌*◌, ◌/◌, ℕ, zero, suc, List, true, inl, inr, sym, ◌∙◌, ap, subst, arith, Contains}
use Rattle.law_times.proofs.Words.{mul-le-mul_left, cases_eq, Plan, IsOverScenario, ScenarioParts, IsSoundScenario, over_sound, Core, count_of, StateOn}
use Rattle.law_times.proofs.Words.{TableEntry, hosts, state_at, HasSlowStreams, IsOnPace}
use Rattle.law_times.proofs.GrownTables.{IsGrown, NewOr}
use Rattle.law_times.proofs.HostFrames.{HostBefore, host_before, none_at_first}
use Rattle.law_times.proofs.LatentSlots.{keep_pace, some_seconds}
use Rattle.law_times.proofs.PacedTables.{more_due}

-- the slots that a stream has been granted before frame f are those that had come due by then: what is granted more are slots of the next round
pub record IsCounted (seconds f : ℕ) (owners : List ℕ) (e : TableEntry) : Type 0 where
  pub accepted : e.accepted < f
  pub few : e.granted ≤ count_of e.code owners + seconds * (f - 1 - e.accepted) / e.interval

module _ (s : ScenarioParts) (accepted : IsOverScenario s) (slow : HasSlowStreams s) where
  abbrev scenario : IsSoundScenario s
  scenario = over_sound s accepted

  pub some : 0 < s.profile.seconds
  some = some_seconds s.profile scenario.profile

  before_next : (f a i : ℕ) → 0 < i → s.profile.seconds * (f - 1 - a) / i ≤ s.profile.seconds * (suc f - 1 - a) / i
  before_next f a i positive = more_due _ _ i positive (mul-le-mul_left s.profile.seconds (omega arith))

  pub counted : (f v : ℕ) (c : Core) → state_at s f v ≡ StateOn c → hosts c.tune ≡ true → (e : TableEntry) → Contains c.table.entries e
      → IsCounted s.profile.seconds f c.plan.owners e
  counted zero v c on host e there = absurd (none_at_first s v c on host e there)
  counted (suc f) v c on host e there = by_due (counted f v)
    where
      last : HostBefore s f v c
      last = host_before s scenario slow some f v c on host e there

      paced : (x : TableEntry) → Contains last.core.table.entries x → IsOnPace s.profile.seconds last.due x
      paced x among = keep_pace s accepted slow f v last.rank last.due last.core last.on last.tune x among

      idle_still : IsCounted s.profile.seconds f last.core.plan.owners e → f < last.due → IsCounted s.profile.seconds (suc f) c.plan.owners e
      idle_still before later =
          let same = last.idle later in
          let among : Contains last.core.table.entries e = subst (λ (l : List TableEntry). Contains l e) same.0 there in
          let count : count_of e.code last.core.plan.owners ≡ count_of e.code c.plan.owners = ap (λ (p : Plan). count_of e.code p.owners) (sym same.1) in
          let pace = (paced e among).slow in
          let more = before_next f e.accepted e.interval (omega (arith, some, pace)) in
          let early = before.accepted in
          let few = before.few in
          record { accepted = omega (arith, early); few = omega (arith, few, more, count) }

      after_round : IsGrown f last.core.table.entries c.plan.owners e → last.due ≡ f → IsCounted s.profile.seconds (suc f) c.plan.owners e
      after_round grown now = by_age grown.was
        where
          by_age : NewOr f last.core.table.entries grown.before → IsCounted s.profile.seconds (suc f) c.plan.owners e
          by_age (inl new) =
              let at = grown.accepted in
              let granted = grown.granted in
              record { accepted = omega (arith, at, new.0); few = omega (arith, granted, new.1) }
          by_age (inr among) =
              let pace = paced grown.before among in
              let early = pace.accepted in
              let at = grown.accepted in
              let due : s.profile.seconds * (last.due - grown.before.accepted) / grown.before.interval
              ≡ s.profile.seconds * (suc f - 1 - e.accepted) / e.interval =
              ap (λ (d : ℕ). s.profile.seconds * (d - grown.before.accepted) / grown.before.interval) now
              ∙ ap (λ (a : ℕ). s.profile.seconds * (f - a) / grown.before.interval) at
              ∙ ap (λ (i : ℕ). s.profile.seconds * (f - e.accepted) / i) grown.interval
              ∙ ap (λ (m : ℕ). s.profile.seconds * (m - e.accepted) / e.interval) (let same : f ≡ suc f - 1 = omega arith in same) in
              let was = pace.granted in
              let granted = grown.granted in
              record { accepted = omega (arith, early, at, now); few = omega (arith, granted, was, due) }

      by_due : ((d : Core) → state_at s f v ≡ StateOn d → hosts d.tune ≡ true → (x : TableEntry) → Contains d.table.entries x
          → IsCounted s.profile.seconds f d.plan.owners x) → IsCounted s.profile.seconds (suc f) c.plan.owners e
      by_due earlier = elim (cases_eq last.due f) [
        | inl now ↦ after_round (last.grown now e there) now
        | inr other ↦
            (let low = last.low in
            let later : f < last.due = omega (arith, low, other) in
            let among : Contains last.core.table.entries e = subst (λ (l : List TableEntry). Contains l e) (last.idle later).0 there in
            idle_still (earlier last.core last.on (ap hosts last.tune) e among) later)
      ]
