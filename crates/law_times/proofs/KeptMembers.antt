-- Members of a rank stay members as long as nothing is lost: their next round comes by the host's closing schedule, and until it comes
-- nobody hosts the rank.
use Rattle.std.proofs.Common.{◌≡◌, ◌≢◌, ◌<◌, ◌≤◌, ◌+◌, ◌-◌, ◌==◌, ◌&&◌, ℕ, zero, suc, List, Bool, true, false, Some, inl, inr, length, refl, ◌∙◌, ap, subst}
use Rattle.std.proofs.Common.{arith, ◌⊎◌}
use Rattle.law_times.proofs.Words.{cases_eq, eq-eqb, ne_eqb, Plan, IsOverScenario, ScenarioParts, IsSoundScenario, over_sound, Tune, Hold, Host, own_rank}
use Rattle.law_times.proofs.Words.{State}
use Rattle.law_times.proofs.Words.{StateOff, StateOn, is_hosting, hosts_in, rank_of, state_at, has, rounds, setup_of, IsRightfulState, rightful, IsLossless}
use Rattle.law_times.proofs.Words.{IsGroup, AreMembers, MembersStay, Core, Scan, one_of_rank}
use Rattle.law_times.proofs.HostedFrames.{Planned}
use Rattle.law_times.proofs.JoinedNodes.{next, host_next, joins}
use Rattle.law_times.proofs.QuietFrames.{Goes, quiet_frame, script_same}
use Rattle.law_times.proofs.QuietRounds.{hosts_round, set_to_host, by_setting, NobodyHosts, nobody_else}
use Rattle.law_times.proofs.ReachedNodes.{IsThere, in_round}
use Rattle.law_times.proofs.Settings.{setting, idle, tune_of, setting_tune, core_tune, core_at, Setting}
use Rattle.law_times.proofs.TuneSteps.{holds_on, goes_idle, goes_tuned, tuned_goes, quiet_step, scans_on}

pub due_host : (rank f : ℕ) → hosts_in rank f (Host rank f) ≡ true
due_host rank f = rw (eq-eqb rank rank refl, eq-eqb f f refl) refl

pub not_due : (rank f due : ℕ) → f < due → hosts_in rank f (Host rank due) ≡ false
not_due rank f due later = by_rank (rank == rank) (due == f) (ne_eqb due f (λ same. absurd (omega (arith, later, same))))
  where
    by_rank : (a b : Bool) → b ≡ false → (a && b) ≡ false
    by_rank true b is = is
    by_rank false b is = refl

-- a host at the start of a frame hosts the rank that the scenario gives it
pub host_own : (s : ScenarioParts) (rank f v due : ℕ) (p : Plan) → Goes s f v (Host rank due) p → own_rank v s.hosts ≡ Some rank
host_own s rank f v due p goes = by_state (state_at s f v) (rightful s f v) goes
  where
    by_state : (x : State) → IsRightfulState (setup_of s v) x → setting x ≡ Some (idle (Host rank due) p) → own_rank v s.hosts ≡ Some rank
    by_state (StateOff boots) is goes = absurd (cc)
    by_state (StateOn c) is goes =
        let same : c.tune ≡ Host rank due = core_tune c (Host rank due) p goes in
        subst (λ (t : Tune). is_hosting t ≡ true → own_rank v s.hosts ≡ Some (rank_of t)) same is.own refl

-- members by their settings
pub record Members (s : ScenarioParts) (rank f host : ℕ) (among : List ℕ) : Type 0 where
  pub due : ℕ
  pub range : (f ≤ due) × (due < f + 4)
  pub plan : Plan
  pub hosts : Goes s f host (Host rank due) plan
  pub hold : (v : ℕ) → has among v ≡ true → v ≢ host → Goes s f v (Hold rank due) plan

-- v holds the round of frame due, or scans, so that it will have scanned for at most this many frames when that round is over
abbrev pub Waits : ScenarioParts → ℕ → ℕ → ℕ → Plan → ℕ → ℕ → Type 0
Waits s rank f due plan most v =
    Goes s f v (Hold rank due) plan ⊎ ((w : ℕ) × (p : Plan) × Goes s f v (Scan rank w) p × (w + (due - f) + 1 ≤ most))

pub record Waiting (s : ScenarioParts) (rank f host : ℕ) (among : List ℕ) (most : ℕ) : Type 0 where
  pub due : ℕ
  pub range : (f ≤ due) × (due < f + 4)
  pub plan : Plan
  pub hosts : Goes s f host (Host rank due) plan
  pub wait : (v : ℕ) → has among v ≡ true → v ≢ host → Waits s rank f due plan most v

-- members wait, and have not scanned
abbrev pub members_wait : (s : ScenarioParts) (rank host f : ℕ) (among : List ℕ) → Members s rank f host among → Waiting s rank f host among 0
members_wait s rank host f among m = record { due = m.due; range = m.range; plan = m.plan; hosts = m.hosts; wait = λ v there other. inl (m.hold v there other) }

-- and who waits and has not scanned is a member
abbrev pub waiting_members : (s : ScenarioParts) (rank host f : ℕ) (among : List ℕ) → Waiting s rank f host among 0 → Members s rank f host among
waiting_members s rank host f among w = record {
  due = w.due;
  range = w.range;
  plan = w.plan;
  hosts = w.hosts;
  hold = λ v there other. holds v (w.wait v there other);
}
  where
    holds : (v : ℕ) → Waits s rank f w.due w.plan 0 v → Goes s f v (Hold rank w.due) w.plan
    holds v (inl is) = is
    holds v (inr (k, p, goes, soon)) = absurd (omega (arith, soon))

pub host_core : (s : ScenarioParts) (rank f host : ℕ) (among : List ℕ) (m : Members s rank f host among)
    → (d : Core) × (state_at s f host ≡ StateOn d) × (d.tune ≡ Host rank m.due) × (d.plan ≡ m.plan)
host_core s rank f host among m =
    let d = core_at (state_at s f host) (idle (Host rank m.due) m.plan) m.hosts in
    (d.0, d.1, ap (λ (k : Setting). k.tune) d.2, ap (λ (k : Setting). k.plan) d.2)

module _ (s : ScenarioParts) (accepted : IsOverScenario s) (rank host b e : ℕ) (among : List ℕ) (group : IsGroup s host b e among) where
  abbrev scenario : IsSoundScenario s
  scenario = over_sound s accepted

  -- after a round in which nothing is lost, of nodes that all take part in it
  pub round_joins : (f : ℕ) → b ≤ f → suc f ≤ e → IsLossless s f → hosts_round rank f (state_at s f host) ≡ true
      → ((v : ℕ) → has among v ≡ true → (t : Tune) × (tune_of (state_at s f v) ≡ Some t) × (in_round rank f t ≡ true)) → Members s rank (suc f) host among
  round_joins f after within lossless due tunes = record {
    due = plan.due;
    range = (let later = plan.later in let soon = plan.soon in (omega (arith, later), omega (arith, soon)));
    plan = plan.plan;
    hosts = script_same s b e (suc f) host (idle (Host rank plan.due) plan.plan) (group.stay host group.led) (omega (arith, after)) within
        (host_next s accepted rank f host due);
    hold = λ v there other. script_same s b e (suc f) v (idle (Hold rank plan.due) plan.plan) (group.stay v there) (omega (arith, after)) within
        (joins s accepted rank f host due lossless among all v there other (group.reached v there other));
  }
    where
      plan : Planned (rounds s f (state_at s f) host) rank f
      plan = next s accepted rank f host due

      all : (v : ℕ) → has among v ≡ true → IsThere s rank f v
      all v there = (let t = tunes v there in record { known = group.known v there; tune = t.0; on = t.1; takes = t.2 })

  -- nodes that wait for a round of the host
  module _ (f most : ℕ) (after : b ≤ f) (within : suc f ≤ e) (few : most ≤ 12) (waiting : Waiting s rank f host among most) where
    own : own_rank host s.hosts ≡ Some rank
    own = host_own s rank f host waiting.due waiting.plan waiting.hosts

    pub not_own : (v : ℕ) → v ≢ host → own_rank v s.hosts ≡ Some rank → ⊥
    not_own v other is = other (one_of_rank s.hosts v host rank is own)

    -- a frame without a round of the host
    pub waiting_quiet : f < waiting.due → (w : Waiting s rank (suc f) host among most) × (w.due ≡ waiting.due) × (w.plan ≡ waiting.plan)
    waiting_quiet later = (
      record {
        due = waiting.due;
        range = (omega (arith, later), (let range = waiting.range in omega (arith, range)));
        plan = waiting.plan;
        hosts = (quiet_frame s b e f host (Host rank waiting.due) waiting.plan (group.stay host group.led)
            (omega (arith, after)) within waiting.hosts nobody).1;
        wait = λ v there other. waits v there other (waiting.wait v there other);
      },
      refl,
      refl,
    )
      where
        nobody : NobodyHosts s rank f
        nobody = nobody_else s rank f host own (goes_idle s rank f host (Host rank waiting.due) waiting.plan waiting.hosts (not_due rank f waiting.due later))

        waits : (v : ℕ) → has among v ≡ true → v ≢ host → Waits s rank f waiting.due waiting.plan most v
            → Waits s rank (suc f) waiting.due waiting.plan most v
        waits v there other (inl holds) =
            inl ((quiet_frame s b e f v (Hold rank waiting.due) waiting.plan (group.stay v there) (omega (arith, after)) within holds nobody).1
            ∙ ap (λ (t : Tune). Some (idle t waiting.plan)) (holds_on (own_rank v s.hosts) rank waiting.due f (length s.hosts) later))
        waits v there other (inr (w, p, goes, soon)) =
            let rule = scans_on (own_rank v s.hosts) rank w f (length s.hosts) (λ is. absurd (not_own v other is)) (omega (arith, soon, few, later)) in
            let next = quiet_step s b e v (group.stay v there) f (Scan rank w) (Scan rank (w + 1)) p after within goes nobody rule in
            inr (w + 1, next.0, next.1, omega (arith, soon, later))

    module _ (now : waiting.due ≡ f) where
      pub waiting_due : hosts_round rank f (state_at s f host) ≡ true
      waiting_due = by_setting rank f (state_at s f host) ∙ ap (set_to_host rank f) waiting.hosts
          ∙ ap (λ (d : ℕ). hosts_in rank f (Host rank d)) now ∙ due_host rank f

      pub holding : in_round rank f (Hold rank waiting.due) ≡ true
      holding = rw (eq-eqb rank rank refl, eq-eqb waiting.due f now) refl

      hosting : in_round rank f (Host rank waiting.due) ≡ true
      hosting = rw (eq-eqb rank rank refl, eq-eqb waiting.due f now) refl

      pub scanning : (w : ℕ) → in_round rank f (Scan rank w) ≡ true
      scanning w = eq-eqb rank rank refl

      waits_by : (v : ℕ) → Waits s rank f waiting.due waiting.plan most v → (t : Tune) × (tune_of (state_at s f v) ≡ Some t) × (in_round rank f t ≡ true)
      waits_by v (inl holds) = (Hold rank waiting.due, setting_tune (state_at s f v) (Hold rank waiting.due) waiting.plan holds, holding)
      waits_by v (inr (w, p, goes, soon)) = (Scan rank w, setting_tune (state_at s f v) (Scan rank w) p goes, scanning w)

      -- its round, if nothing is lost
      pub waiting_joins : IsLossless s f → Members s rank (suc f) host among
      waiting_joins none = round_joins f after within none waiting_due tunes
        where
          tunes : (v : ℕ) → has among v ≡ true → (t : Tune) × (tune_of (state_at s f v) ≡ Some t) × (in_round rank f t ≡ true)
          tunes v there = elim (cases_eq v host) [
            | inl same ↦ (
              Host rank waiting.due,
              ap (λ (u : ℕ). tune_of (state_at s f u)) same ∙ setting_tune (state_at s f host) (Host rank waiting.due) waiting.plan waiting.hosts,
              hosting,
            )
            | inr other ↦ waits_by v (waiting.wait v there other)
          ]

  -- a frame of members without a round
  pub quiet : (f : ℕ) → b ≤ f → suc f ≤ e → (members : Members s rank f host among) → f < members.due
      → (next : Members s rank (suc f) host among) × (next.due ≡ members.due) × (next.plan ≡ members.plan)
  quiet f after within members later =
      let next = waiting_quiet f 0 after within (omega arith) (members_wait s rank host f among members) later in
      (waiting_members s rank host (suc f) among next.0, next.1, next.2)

  -- and any frame
  pub step : (f : ℕ) → b ≤ f → suc f ≤ e → IsLossless s f → Members s rank f host among → Members s rank (suc f) host among
  step f after within lossless members = elim (cases_eq members.due f) [
    | inl now ↦ waiting_joins f 0 after within (omega arith) (members_wait s rank host f among members) now lossless
    | inr other ↦ (quiet f after within members (let range = members.range in omega (arith, range, other))).0
  ]

  pub members_stay : (f : ℕ) → b ≤ f → Members s rank f host among → (n : ℕ) → n + f ≤ e → ((m : ℕ) → f ≤ m → m < n + f → IsLossless s m)
      → Members s rank (n + f) host among
  members_stay f after members zero within lossless = subst (λ (g : ℕ). Members s rank g host among) (omega arith) members
  members_stay f after members (suc n) within lossless =
      subst (λ (g : ℕ). Members s rank g host among) (omega arith)
      (step (n + f) (omega (arith, after)) (omega (arith, within)) (lossless (n + f) (omega arith) (omega arith))
      (members_stay f after members n (omega (arith, within)) (λ m low high. lossless m low (omega (arith, high)))))

  pub of_members : (f : ℕ) → Members s rank f host among → AreMembers s rank f host among
  of_members f members = record {
    due = members.due;
    range = members.range;
    plan = members.plan;
    hosts = goes_tuned s f host (Host rank members.due) members.plan members.hosts;
    hold = λ v there other. goes_tuned s f v (Hold rank members.due) members.plan (members.hold v there other);
  }

  abbrev pub to_members : (f : ℕ) → AreMembers s rank f host among → Members s rank f host among
  to_members f members = record {
    due = members.due;
    range = members.range;
    plan = members.plan;
    hosts = tuned_goes s scenario f host (Host rank members.due) members.plan members.hosts;
    hold = λ v there other. tuned_goes s scenario f v (Hold rank members.due) members.plan (members.hold v there other);
  }

pub members : MembersStay
members s accepted rank host f e among group are g after within lossless =
    let n : ℕ = g - f in
    let at : n + f ≡ g = omega (arith, after) in
    subst (λ (g : ℕ). AreMembers s rank g host among) at
    (of_members s accepted rank host f e among group (n + f)
    (members_stay s accepted rank host f e among group f (omega arith) (to_members s accepted rank host f e among group f are) n (omega (arith, within, at))
    (λ m low high. lossless m low (omega (arith, high, at)))))
