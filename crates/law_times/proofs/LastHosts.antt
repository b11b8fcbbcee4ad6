-- The last host that is on hosts its rank within a bound, whatever is lost: nobody else says a schedule.
use Rattle.std.proofs.Common.{◌≡◌, ◌<◌, ◌≤◌, ◌+◌, ◌-◌, ◌%◌, ℕ, zero, suc, Bool, true, false, Some, inl, inr, length, refl, sym, ◌∙◌, ap, subst, arith}
use Rattle.law_times.proofs.Words.{cases_eq, cases_lt, false≢true, Plan, IsOverScenario, ScenarioParts, IsSoundScenario, over_sound, Tune, Scan, Hold, Host}
use Rattle.law_times.proofs.Words.{own_rank}
use Rattle.law_times.proofs.Words.{hosts_in, next_tune, rank_of, state_at, hosted, IsLastHost, HostsWithin, failover_bound, is_on_in, StaysOn, Hosts}
use Rattle.law_times.proofs.BootedNodes.{off_throughout}
use Rattle.law_times.proofs.FramesLeft.{ranks_left, one_less, few_left, left_low, left, is_a_host, hosts_on, goes_on, goes_range}
use Rattle.law_times.proofs.HostedFrames.{rank_below}
use Rattle.law_times.proofs.JoinedNodes.{next, host_next}
use Rattle.law_times.proofs.KeptMembers.{due_host, not_due, host_own}
use Rattle.law_times.proofs.QuietFrames.{Goes, goes_rank, quiet_frame, script_same}
use Rattle.law_times.proofs.QuietRounds.{hosts_round, host_is_own, set_to_host, by_setting, NobodyHosts, nobody_else}
use Rattle.law_times.proofs.Settings.{idle}
use Rattle.law_times.proofs.TuneSteps.{goes_idle, goes_tuned, hold_falls, holds_on, quiet_step, scan_serves, scan_turns, scans_on}

-- a host that is on stays one
module _ (s : ScenarioParts) (accepted : IsOverScenario s) (rank host b e : ℕ) (stays : StaysOn s b e host) where
  host_step : (f due : ℕ) (p : Plan) → b ≤ f → suc f ≤ e → Goes s f host (Host rank due) p → (d : ℕ) × (q : Plan) × Goes s (suc f) host (Host rank d) q
  host_step f due p after within goes = elim (cases_eq due f) [ inl now ↦ planned now | inr other ↦ waits other ]
    where
      planned : due ≡ f → (d : ℕ) × (q : Plan) × Goes s (suc f) host (Host rank d) q
      planned now =
          let is : hosts_round rank f (state_at s f host) ≡ true =
          by_setting rank f (state_at s f host) ∙ ap (set_to_host rank f) goes ∙ ap (λ (d : ℕ). hosts_in rank f (Host rank d)) now ∙ due_host rank f in
          let plan = next s accepted rank f host is in (
            plan.due,
            plan.plan,
            script_same s b e (suc f) host (idle (Host rank plan.due) plan.plan) stays (omega (arith, after)) within
                (host_next s accepted rank f host is),
          )

      waits : (due ≡ f → ⊥) → (d : ℕ) × (q : Plan) × Goes s (suc f) host (Host rank d) q
      waits other =
          let range = goes_range s (over_sound s accepted) f host (Host rank due) p goes in
          let later : f < due = omega (arith, range, other) in
          let nobody = nobody_else s rank f host (host_own s rank f host due p goes)
          (goes_idle s rank f host (Host rank due) p goes (not_due rank f due later)) in
          (due, p, (quiet_frame s b e f host (Host rank due) p stays (omega (arith, after)) within goes nobody).1)

  pub hosts_on_and_on : (f due : ℕ) (p : Plan) → b ≤ f → Goes s f host (Host rank due) p → (n : ℕ) → n + f ≤ e
      → (d : ℕ) × (q : Plan) × Goes s (n + f) host (Host rank d) q
  hosts_on_and_on f due p after goes zero within = (due, p, subst (λ (g : ℕ). Goes s g host (Host rank due) p) (omega arith) goes)
  hosts_on_and_on f due p after goes (suc n) within =
      let before = hosts_on_and_on f due p after goes n (omega (arith, within)) in
      let step = host_step (n + f) before.0 before.1 (omega (arith, after)) (omega (arith, within)) before.2 in
      (step.0, step.1, subst (λ (g : ℕ). Goes s g host (Host rank step.0) step.1) (omega arith) step.2)

  pub hosts_at : (g due : ℕ) (p : Plan) → Goes s g host (Host rank due) p → Hosts s rank g host
  hosts_at g due p goes = record {
    due = due;
    range = (let range = goes_range s (over_sound s accepted) g host (Host rank due) p goes in (omega (arith, range), omega (arith, range)));
    tuned = record { plan = p; tuned = goes_tuned s g host (Host rank due) p goes };
  }

module _ (s : ScenarioParts) (accepted : IsOverScenario s) (rank host b e : ℕ) (last : IsLastHost s rank host b e) where
  abbrev scenario : IsSoundScenario s
  scenario = over_sound s accepted

  abbrev ranks : ℕ
  ranks = length s.hosts

  low : rank < ranks
  low = rank_below s host rank last.own

  -- nobody hosts another rank
  nobody_other : (f q : ℕ) → b ≤ f → f ≤ e → (q ≡ rank → ⊥) → NobodyHosts s q f
  nobody_other f q after within other v = by_test (hosts_round q f (state_at s f v)) refl
    where
      off : own_rank v s.hosts ≡ Some q → is_on_in s f v ≡ false
      off own =
          let differs : v ≡ host → ⊥ =
          λ same. other (same_rank (sym own ∙ ap (λ (u : ℕ). own_rank u s.hosts) same ∙ last.own)) in
          let n : ℕ = f - b in
          let at : n + b ≡ f = omega (arith, after) in
          subst (λ (g : ℕ). is_on_in s g v ≡ false) at (off_throughout s b e v (last.others v (is_a_host s v q own) differs) n (omega (arith, at, within)))
        where
          same_rank : Some q ≡ Some rank → q ≡ rank
          same_rank is = cc

      by_test : (t : Bool) → hosts_round q f (state_at s f v) ≡ t → hosts_round q f (state_at s f v) ≡ false
      by_test false is = is
      by_test true is = absurd (false≢true (sym (off (host_is_own s q f v is)) ∙ hosts_on s q f v is))

  nobody : (f : ℕ) (t : Tune) (p : Plan) → b ≤ f → f ≤ e → Goes s f host t p → hosts_in (rank_of t) f t ≡ false → NobodyHosts s (rank_of t) f
  nobody f t p after within goes idles = elim (cases_eq (rank_of t) rank) [
    | inl own ↦
        nobody_else s (rank_of t) f host (last.own ∙ ap (λ (r : ℕ). Some r) (sym own)) (goes_idle s (rank_of t) f host t p goes idles)
    | inr other ↦ nobody_other f (rank_of t) after within other
  ]

  -- a frame nearer
  record Nearer (f m : ℕ) : Type 0 where
    tune : Tune
    plan : Plan
    goes : Goes s (suc f) host tune plan
    frames : left ranks rank (suc f) tune ≡ m

  to : (f m : ℕ) (t u : Tune) (p : Plan) → b ≤ f → suc f ≤ e → Goes s f host t p → hosts_in (rank_of t) f t ≡ false
      → next_tune t f false (own_rank host s.hosts) ranks ≡ u → left ranks rank (suc f) u ≡ m → Nearer f m
  to f m t u p after within goes idles rule less =
      let next = quiet_step s b e host last.stays f t u p after within goes (nobody f t p after (omega (arith, within)) goes idles) rule in
      record { tune = u; plan = next.0; goes = next.1; frames = less }

  not_own : (q : ℕ) → (q ≡ rank → ⊥) → own_rank host s.hosts ≡ Some q → ⊥
  not_own q other own = other (same_rank (sym own ∙ last.own))
    where
      same_rank : Some q ≡ Some rank → q ≡ rank
      same_rank is = cc

  nearer : (f m : ℕ) (t : Tune) (p : Plan) → b ≤ f → suc f ≤ e → Goes s f host t p → left ranks rank f t ≡ suc m → Nearer f m
  nearer f m (Host q d) p after within goes frames = absurd (omega (arith, frames))
  nearer f m (Hold q d) p after within goes frames = elim (cases_lt f d) [
    | inl later ↦
        to f m (Hold q d) (Hold q d) p after within goes refl (holds_on (own_rank host s.hosts) q d f ranks later) (omega (arith, frames, later))
    | inr past ↦
        (let range = goes_range s scenario f host (Hold q d) p goes in
        to f m (Hold q d) (Scan q 0) p after within goes refl (hold_falls (own_rank host s.hosts) q d f ranks past) (omega (arith, frames, past, range)))
  ]
  nearer f m (Scan q w) p after within goes frames = elim (cases_eq q rank) [ inl own ↦ of_own own | inr other ↦ of_other other ]
    where
      range : (w < 12) × (own_rank host s.hosts ≡ Some q → w < 5)
      range = goes_range s scenario f host (Scan q w) p goes

      of_own : q ≡ rank → Nearer f m
      of_own own = elim (cases_eq (w + 1) 5) [
        | inl end ↦
            to f m (Scan q w) (Host q (f + 1)) p after within goes refl (scan_serves (own_rank host s.hosts) q w f ranks is end)
            (omega (arith, frames, end, none))
        | inr more ↦
            to f m (Scan q w) (Scan q (w + 1)) p after within goes refl
            (scans_on (own_rank host s.hosts) q w f ranks (λ _. omega (arith, few, more)) (omega (arith, few))) (omega (arith, frames, none, few, more))
      ]
        where
          is : own_rank host s.hosts ≡ Some q
          is = last.own ∙ ap (λ (r : ℕ). Some r) (sym own)

          few : w < 5
          few = range.1 is

          none : ranks_left ranks rank q ≡ 0
          none = (let at = left_low ranks rank q (omega (arith, own)) in omega (arith, at, own))

      of_other : (q ≡ rank → ⊥) → Nearer f m
      of_other other = elim (cases_eq (w + 1) 12) [
        | inl end ↦
            to f m (Scan q w) (Scan ((q + 1) % ranks) 0) p after within goes refl (scan_turns (own_rank host s.hosts) q w f ranks (not_own q other) end)
            (omega (arith, frames, end, less))
        | inr more ↦
            to f m (Scan q w) (Scan q (w + 1)) p after within goes refl
            (scans_on (own_rank host s.hosts) q w f ranks (λ own. absurd (not_own q other own)) (omega (arith, few, more)))
            (omega (arith, frames, less, few, more))
      ]
        where
          few : w < 12
          few = range.0

          below : q < ranks
          below = subst (λ (r : ℕ). r < ranks) (goes_rank s f host (Scan q w) p goes) (hosted s scenario.some_hosts f host)

          less : ranks_left ranks rank q ≡ suc (ranks_left ranks rank ((q + 1) % ranks))
          less = one_less ranks rank q low below other

  -- none left: it hosts
  there : (f : ℕ) (t : Tune) (p : Plan) → Goes s f host t p → left ranks rank f t ≡ 0 → (d : ℕ) × Goes s f host (Host rank d) p
  there f (Host q d) p goes none =
      let is : Some q ≡ Some rank = sym (host_own s q f host d p goes) ∙ last.own in
      let same : q ≡ rank = cc in
      (d, subst (λ (r : ℕ). Goes s f host (Host r d) p) same goes)
  there f (Hold q d) p goes none = absurd (omega (arith, none))
  there f (Scan q w) p goes none = absurd (elim (cases_eq q rank) [
    | inl own ↦ (let few = range.1 (last.own ∙ ap (λ (r : ℕ). Some r) (sym own)) in omega (arith, none, few))
    | inr other ↦ (let less = one_less ranks rank q low below other in let few = range.0 in omega (arith, none, less, few))
  ])
    where
      range : (w < 12) × (own_rank host s.hosts ≡ Some q → w < 5)
      range = goes_range s scenario f host (Scan q w) p goes

      below : q < ranks
      below = subst (λ (r : ℕ). r < ranks) (goes_rank s f host (Scan q w) p goes) (hosted s scenario.some_hosts f host)

  reaches : (n f : ℕ) (t : Tune) (p : Plan) → b ≤ f → n + f ≤ e → Goes s f host t p → left ranks rank f t ≡ n
      → (d : ℕ) × (q : Plan) × Goes s (n + f) host (Host rank d) q
  reaches zero f t p after within goes frames =
      let at = there f t p goes frames in
      (at.0, p, subst (λ (g : ℕ). Goes s g host (Host rank at.0) p) (omega arith) at.1)
  reaches (suc n) f t p after within goes frames =
      let one = nearer f n t p after (omega (arith, within)) goes frames in
      let more = reaches n (suc f) one.tune one.plan (omega (arith, after)) (omega (arith, within)) one.goes one.frames in
      (more.0, more.1, subst (λ (g : ℕ). Goes s g host (Host rank more.0) more.1) (omega arith) more.2)

  -- and no more than the bound are left at first
  bound : (t : Tune) (p : Plan) → Goes s b host t p → left ranks rank b t ≤ failover_bound ranks
  bound (Host q d) p goes = omega arith
  bound (Hold q d) p goes =
      let range = goes_range s scenario b host (Hold q d) p goes in
      let below = subst (λ (r : ℕ). r < ranks) (goes_rank s b host (Hold q d) p goes) (hosted s scenario.some_hosts b host) in
      let few = few_left ranks rank q low below in
      omega (arith, range.0, range.1, few)
  bound (Scan q w) p goes =
      let below = subst (λ (r : ℕ). r < ranks) (goes_rank s b host (Scan q w) p goes) (hosted s scenario.some_hosts b host) in
      let few = few_left ranks rank q low below in
      omega (arith, few)

  pub takes_over : (g : ℕ) → b + failover_bound ranks ≤ g → g ≤ e → Hosts s rank g host
  takes_over g after within =
      let first = goes_on s scenario b host last.on in
      let n : ℕ = left ranks rank b first.0 in
      let few : n ≤ failover_bound ranks = bound first.0 first.1 first.2 in
      let at = reaches n b first.0 first.1 (omega arith) (omega (arith, few, after, within)) first.2 refl in
      let k : ℕ = g - (n + b) in
      let is : k + (n + b) ≡ g = omega (arith, few, after) in
      let end = hosts_on_and_on s accepted rank host b e last.stays (n + b) at.0 at.1 (omega arith) at.2 k (omega (arith, is, within)) in
      subst (λ (f : ℕ). Hosts s rank f host) is (hosts_at s accepted rank host b e last.stays (k + (n + b)) end.0 end.1 end.2)

pub last_hosts : (hosts : ℕ) → HostsWithin hosts (failover_bound hosts)
last_hosts hosts s accepted so_many rank host b e last g after within =
    takes_over s accepted rank host b e last g (subst (λ (n : ℕ). b + failover_bound n ≤ g) (sym so_many) after) within
