-- The first round of a host of rank 0, and the nodes that join in it.
use Rattle.std.proofs.Common.{◌≡◌, ◌<◌, ◌≤◌, ◌+◌, ◌-◌, ℕ, suc, true, Some, inl, inr, length, refl, ◌∙◌, ap, subst, arith}
use Rattle.law_times.proofs.Words.{cases_eq, Plan, ScenarioParts, Tune, Scan, Host, own_rank, no_plan, state_at, has, one_of_rank, StaysOn, AreMembers, IsUpBy}
use Rattle.law_times.proofs.Words.{FirstRoundsCome, NodesJoin}
use Rattle.law_times.proofs.BootedNodes.{boots_scanning}
use Rattle.law_times.proofs.KeptMembers.{Members, due_host, members_stay, of_members, round_joins}
use Rattle.law_times.proofs.QuietFrames.{Goes}
use Rattle.law_times.proofs.QuietRounds.{hosts_round, set_to_host, by_setting, NobodyHosts, nobody_else}
use Rattle.law_times.proofs.ReachedNodes.{in_round}
use Rattle.law_times.proofs.Settings.{setting_tune, tune_of}
use Rattle.law_times.proofs.TuneSteps.{goes_idle, goes_tuned, quiet_step, scan_serves, scanning}

module _ (s : ScenarioParts) (host b e : ℕ) (first : own_rank host s.hosts ≡ Some 0) (stays : StaysOn s b e host)
    (boots : Goes s b host (Scan 0 0) no_plan) where
  nobody_yet : (f w : ℕ) (q : Plan) → Goes s f host (Scan 0 w) q → NobodyHosts s 0 f
  nobody_yet f w q goes = nobody_else s 0 f host first (goes_idle s 0 f host (Scan 0 w) q goes refl)

  -- it scans for QUIET_FRAMES frames
  pub still : (n : ℕ) → n < 5 → n + b ≤ e → (q : Plan) × Goes s (n + b) host (Scan 0 (n + 0)) q
  still n few within =
      scanning s b e host stays 0 b 0 no_plan (omega arith) boots n within (omega (arith, few)) (λ own. omega (arith, few))
      (λ m q below goes. nobody_yet (m + b) (m + 0) q goes)

  pub nobody_before : (f : ℕ) → b ≤ f → f < b + 5 → f ≤ e → NobodyHosts s 0 f
  nobody_before f after before within =
      let n : ℕ = f - b in
      let at : n + b ≡ f = omega (arith, after) in
      let q = still n (omega (arith, at, before)) (omega (arith, at, within)) in
      subst (λ (g : ℕ). NobodyHosts s 0 g) at (nobody_yet (n + b) (n + 0) q.0 q.1)

  -- and then hosts
  pub serves : b + 5 ≤ e → (q : Plan) × Goes s (b + 5) host (Host 0 (b + 5)) q
  serves within =
      let last = still 4 (omega arith) (omega (arith, within)) in
      let rule = scan_serves (own_rank host s.hosts) 0 (4 + 0) (4 + b) (length s.hosts) first refl in
      let next = quiet_step s b e host stays (4 + b) (Scan 0 (4 + 0)) (Host 0 (4 + b + 1)) last.0 (omega arith) (omega (arith, within)) last.1
      (nobody_yet (4 + b) (4 + 0) last.0 last.1) rule in (
        next.0,
        subst (λ (g : ℕ). Goes s g host (Host 0 (b + 5)) next.0) (omega arith)
            (subst (λ (d : ℕ). Goes s (suc (4 + b)) host (Host 0 d) next.0) (omega arith) next.1),
      )

  -- who is up by then and is another node scans rank 0 then
  pub joins_scanning : b + 5 ≤ e → (v : ℕ) → (v ≡ host → ⊥) → IsUpBy s b (b + 5) v → (w : ℕ) × (q : Plan) × Goes s (b + 5) v (Scan 0 w) q
  joins_scanning within v other up =
      let n : ℕ = b + 5 - up.frame in
      let range = up.range in
      let at : n + up.frame ≡ b + 5 = omega (arith, range) in
      let not_own : own_rank v s.hosts ≡ Some 0 → ⊥ = λ own. other (one_of_rank s.hosts v host 0 own first) in
      let last = scanning s up.frame (b + 5) v up.stays 0 up.frame 0 no_plan (omega arith) (boots_scanning s up.frame v up.boots) n (omega (arith, at))
      (omega (arith, at, range)) (λ own. absurd (not_own own))
      (λ m q below goes. nobody_before (m + up.frame) (omega (arith, range)) (omega (arith, at, below)) (omega (arith, at, below, within))) in
      (n + 0, last.0, subst (λ (g : ℕ). Goes s g v (Scan 0 (n + 0)) last.0) at last.1)

pub first_rounds : FirstRoundsCome 5
first_rounds s accepted host b begins =
    let last = serves s host b (b + 5) begins.first begins.stays (boots_scanning s b host begins.boots) (omega arith) in
    record { plan = last.0; tuned = goes_tuned s (b + 5) host (Host 0 (b + 5)) last.0 last.1 }

pub nodes_join : NodesJoin
nodes_join s accepted host b e begins among group up g after within lossless =
    let n : ℕ = g - suc (b + 5) in
    let at : n + suc (b + 5) ≡ g = omega (arith, after) in
    let joined : Members s 0 (suc (b + 5)) host among =
    round_joins s accepted 0 host (b + 5) e among group (b + 5) (omega arith) (omega (arith, after, within)) (lossless (b + 5) (omega arith) after) due tunes in
    subst (λ (g : ℕ). AreMembers s 0 g host among) at
    (of_members s accepted 0 host (b + 5) e among group (n + suc (b + 5))
    (members_stay s accepted 0 host (b + 5) e among group (suc (b + 5)) (omega arith) joined n (omega (arith, within, at))
    (λ m low high. lossless m (omega (arith, low)) (omega (arith, high, at)))))
  where
    room : b + 5 ≤ e
    room = omega (arith, after, within)

    first_round : (q : Plan) × Goes s (b + 5) host (Host 0 (b + 5)) q
    first_round = serves s host b e begins.first begins.stays (boots_scanning s b host begins.boots) room

    due : hosts_round 0 (b + 5) (state_at s (b + 5) host) ≡ true
    due = by_setting 0 (b + 5) (state_at s (b + 5) host) ∙ ap (set_to_host 0 (b + 5)) first_round.1 ∙ due_host 0 (b + 5)

    tunes : (v : ℕ) → has among v ≡ true → (t : Tune) × (tune_of (state_at s (b + 5) v) ≡ Some t) × (in_round 0 (b + 5) t ≡ true)
    tunes v there = elim (cases_eq v host) [
      | inl same ↦ (
        Host 0 (b + 5),
        ap (λ (u : ℕ). tune_of (state_at s (b + 5) u)) same ∙ setting_tune (state_at s (b + 5) host) (Host 0 (b + 5)) first_round.0 first_round.1,
        hosting,
      )
      | inr other ↦
          (let scans = joins_scanning s host b e begins.first begins.stays (boots_scanning s b host begins.boots) room v other (up v there other) in
          (Scan 0 scans.0, setting_tune (state_at s (b + 5) v) (Scan 0 scans.0) scans.1 scans.2, refl))
    ]
      where
        hosting : in_round 0 (b + 5) (Host 0 (b + 5)) ≡ true
        hosting = rw (due_host 0 (b + 5)) refl
