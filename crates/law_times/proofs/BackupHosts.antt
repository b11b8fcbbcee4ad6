-- Of two hosts that of rank 0 is gone: the round that falls out, a search for rank 0, one for rank 1, and the first round of the other.
use Rattle.std.proofs.Common.{◌≡◌, ◌<◌, ◌≤◌, ◌+◌, ◌-◌, ◌%◌, ℕ, zero, suc, List, Bool, true, false, Some, inl, inr, length, refl, sym, ◌∙◌, ap, subst, arith}
use Rattle.law_times.proofs.Words.{cases_eq, false≢true, Plan, IsOverScenario, ScenarioParts, IsSoundScenario, over_sound, Tune, Scan, Hold, Host, own_rank}
use Rattle.law_times.proofs.Words.{state_at}
use Rattle.law_times.proofs.Words.{has, one_of_rank, LosesHost, BackupsTakeOver, NodesFollow, IsLossless, is_on_in, AreMembers}
use Rattle.law_times.proofs.BootedNodes.{off_throughout}
use Rattle.law_times.proofs.FramesLeft.{hosts_on, goes_range}
use Rattle.law_times.proofs.KeptMembers.{Members, due_host, of_members, round_joins}
use Rattle.law_times.proofs.QuietFrames.{Goes, quiet_frame}
use Rattle.law_times.proofs.QuietRounds.{hosts_round, set_to_host, by_setting, NobodyHosts, nobody_else}
use Rattle.law_times.proofs.ReachedNodes.{in_round}
use Rattle.law_times.proofs.Settings.{setting_tune, tune_of}
use Rattle.law_times.proofs.TuneSteps.{goes_idle, goes_tuned, tune_goes, hold_falls, holds_on, quiet_step, scan_serves, scan_turns, scanning}

module _ (s : ScenarioParts) (accepted : IsOverScenario s) (first second b d e : ℕ) (among : List ℕ) (loses : LosesHost s first second b d e among) where
  abbrev scenario : IsSoundScenario s
  scenario = over_sound s accepted

  off : (f : ℕ) → b ≤ f → f ≤ e → is_on_in s f first ≡ false
  off f after within =
      let n : ℕ = f - b in
      let at : n + b ≡ f = omega (arith, after) in
      subst (λ (g : ℕ). is_on_in s g first ≡ false) at (off_throughout s b e first loses.off n (omega (arith, at, within)))

  -- nobody hosts rank 0 any more
  nobody_first : (f : ℕ) → b ≤ f → f ≤ e → NobodyHosts s 0 f
  nobody_first f after within = nobody_else s 0 f first loses.first_own (by_test (hosts_round 0 f (state_at s f first)) refl)
    where
      by_test : (t : Bool) → hosts_round 0 f (state_at s f first) ≡ t → hosts_round 0 f (state_at s f first) ≡ false
      by_test false is = is
      by_test true is = absurd (false≢true (sym (off f after within) ∙ hosts_on s 0 f first is))

  module _ (v : ℕ) (there : has among v ≡ true) where
    held : (p : Plan) × Goes s b v (Hold 0 d) p
    held = tune_goes s scenario b v (Hold 0 d) (loses.hold v there)

    pub range : (b ≤ d) × (d ≤ b + 3) × (own_rank v s.hosts ≡ Some 0 → ⊥)
    range = goes_range s scenario b v (Hold 0 d) held.0 held.1

    -- it holds the round that falls out
    holding : (n : ℕ) → n + b ≤ d → n + b ≤ e → Goes s (n + b) v (Hold 0 d) held.0
    holding zero soon within = subst (λ (g : ℕ). Goes s g v (Hold 0 d) held.0) (omega arith) held.1
    holding (suc n) soon within =
        let before = holding n (omega (arith, soon)) (omega (arith, within)) in
        let next = quiet_frame s b e (n + b) v (Hold 0 d) held.0 (loses.group.stay v there) (omega arith) (omega (arith, within)) before
        (nobody_first (n + b) (omega arith) (omega (arith, within))) in
        let stays = holds_on (own_rank v s.hosts) 0 d (n + b) (length s.hosts) (omega (arith, soon)) in
        subst (λ (g : ℕ). Goes s g v (Hold 0 d) held.0) (omega arith)
        (subst (λ (t : Tune). Goes s (suc (n + b)) v t held.0) stays next.1)

    falls : suc d ≤ e → (q : Plan) × Goes s (suc d) v (Scan 0 0) q
    falls within =
        let low = range.0 in
        let n : ℕ = d - b in
        let at : n + b ≡ d = omega (arith, low) in
        let last : Goes s d v (Hold 0 d) held.0 =
        subst (λ (g : ℕ). Goes s g v (Hold 0 d) held.0) at (holding n (omega (arith, at)) (omega (arith, at, within))) in
        quiet_step s b e v (loses.group.stay v there) d (Hold 0 d) (Scan 0 0) held.0 low within last (nobody_first d low (omega (arith, within)))
        (hold_falls (own_rank v s.hosts) 0 d d (length s.hosts) (omega arith))

    -- and searches rank 0, which is not its own
    turned : d + 13 ≤ e → (q : Plan) × Goes s (d + 13) v (Scan 1 0) q
    turned within =
        let low = range.0 in
        let begun = falls (omega (arith, within)) in
        let last = scanning s b e v (loses.group.stay v there) 0 (suc d) 0 begun.0 (omega (arith, low)) begun.1 11 (omega (arith, within)) (omega arith)
        (λ own. absurd (range.2 own)) (λ m q below goes. nobody_first (m + suc d) (omega (arith, low)) (omega (arith, below, within))) in
        let rule = scan_turns (own_rank v s.hosts) 0 (11 + 0) (11 + suc d) (length s.hosts) range.2 refl
        ∙ ap (λ (n : ℕ). Scan ((0 + 1) % n) 0) loses.two in
        let next = quiet_step s b e v (loses.group.stay v there) (11 + suc d) (Scan 0 (11 + 0)) (Scan 1 0) last.0 (omega (arith, low)) (omega (arith, within))
        last.1 (nobody_first (11 + suc d) (omega (arith, low)) (omega (arith, within))) rule in
        (next.0, subst (λ (g : ℕ). Goes s g v (Scan 1 0) next.0) (omega arith) next.1)

  low : b ≤ d
  low = (range second loses.group.led).0

  nobody_yet : (f w : ℕ) (q : Plan) → Goes s f second (Scan 1 w) q → NobodyHosts s 1 f
  nobody_yet f w q goes = nobody_else s 1 f second loses.second_own (goes_idle s 1 f second (Scan 1 w) q goes refl)

  -- the other host searches its own rank
  searches : d + 13 ≤ e → (n : ℕ) → n < 5 → n + (d + 13) ≤ e → (q : Plan) × Goes s (n + (d + 13)) second (Scan 1 (n + 0)) q
  searches within n few far =
      let begun = turned second loses.group.led within in
      scanning s b e second (loses.group.stay second loses.group.led) 1 (d + 13) 0 begun.0 (let is = low in omega (arith, is)) begun.1 n far
      (omega (arith, few))
      (λ own. omega (arith, few)) (λ m q below goes. nobody_yet (m + (d + 13)) (m + 0) q goes)

  -- and has its first round
  pub serves : d + 18 ≤ e → (q : Plan) × Goes s (d + 18) second (Host 1 (d + 18)) q
  serves within =
      let is = low in
      let last = searches (omega (arith, within)) 4 (omega arith) (omega (arith, within)) in
      let rule = scan_serves (own_rank second s.hosts) 1 (4 + 0) (4 + (d + 13)) (length s.hosts) loses.second_own refl in
      let next = quiet_step s b e second (loses.group.stay second loses.group.led) (4 + (d + 13)) (Scan 1 (4 + 0)) (Host 1 (4 + (d + 13) + 1)) last.0
      (omega (arith, is)) (omega (arith, within)) last.1 (nobody_yet (4 + (d + 13)) (4 + 0) last.0 last.1) rule in (
        next.0,
        subst (λ (g : ℕ). Goes s g second (Host 1 (d + 18)) next.0) (omega arith)
            (subst (λ (n : ℕ). Goes s (suc (4 + (d + 13))) second (Host 1 n) next.0) (omega arith) next.1),
      )

  nobody_second : (f : ℕ) → d + 13 ≤ f → f < d + 18 → f ≤ e → NobodyHosts s 1 f
  nobody_second f after before within =
      let n : ℕ = f - (d + 13) in
      let at : n + (d + 13) ≡ f = omega (arith, after) in
      let q = searches (omega (arith, after, within)) n (omega (arith, at, before)) (omega (arith, at, within)) in
      subst (λ (g : ℕ). NobodyHosts s 1 g) at (nobody_yet (n + (d + 13)) (n + 0) q.0 q.1)

  -- while all others scan its rank
  scans : d + 18 ≤ e → (v : ℕ) → has among v ≡ true → (v ≡ second → ⊥) → (q : Plan) × Goes s (d + 18) v (Scan 1 5) q
  scans within v there other =
      let is = low in
      let begun = turned v there (omega (arith, within)) in
      let last = scanning s b e v (loses.group.stay v there) 1 (d + 13) 0 begun.0 (omega (arith, is)) begun.1 5 (omega (arith, within)) (omega arith)
      (λ own. absurd (other (one_of_rank s.hosts v second 1 own loses.second_own)))
      (λ m q below goes. nobody_second (m + (d + 13)) (omega arith) (omega (arith, below)) (omega (arith, below, within))) in
      (last.0, subst (λ (g : ℕ). Goes s g v (Scan 1 5) last.0) (omega arith) last.1)

  pub follow : d + 18 + 1 ≤ e → IsLossless s (d + 18) → Members s 1 (suc (d + 18)) second among
  follow within lossless =
      round_joins s accepted 1 second b e among loses.group (d + 18) (let is = low in omega (arith, is)) (omega (arith, within)) lossless due tunes
    where
      first_round : (q : Plan) × Goes s (d + 18) second (Host 1 (d + 18)) q
      first_round = serves (omega (arith, within))

      due : hosts_round 1 (d + 18) (state_at s (d + 18) second) ≡ true
      due = by_setting 1 (d + 18) (state_at s (d + 18) second) ∙ ap (set_to_host 1 (d + 18)) first_round.1 ∙ due_host 1 (d + 18)

      tunes : (v : ℕ) → has among v ≡ true → (t : Tune) × (tune_of (state_at s (d + 18) v) ≡ Some t) × (in_round 1 (d + 18) t ≡ true)
      tunes v there = elim (cases_eq v second) [
        | inl same ↦ (
          Host 1 (d + 18),
          ap (λ (u : ℕ). tune_of (state_at s (d + 18) u)) same
              ∙ setting_tune (state_at s (d + 18) second) (Host 1 (d + 18)) first_round.0 first_round.1,
          hosting,
        )
        | inr other ↦
            (let at = scans (omega (arith, within)) v there other in
            (Scan 1 5, setting_tune (state_at s (d + 18) v) (Scan 1 5) at.0 at.1, refl))
      ]
        where
          hosting : in_round 1 (d + 18) (Host 1 (d + 18)) ≡ true
          hosting = rw (due_host 1 (d + 18)) refl

pub backups : BackupsTakeOver 18
backups s accepted first second b d e among loses within =
    let at = serves s accepted first second b d e among loses within in
    record { plan = at.0; tuned = goes_tuned s (d + 18) second (Host 1 (d + 18)) at.0 at.1 }

pub nodes_follow : NodesFollow 18
nodes_follow s accepted first second b d e among loses within lossless =
    subst (λ (g : ℕ). AreMembers s 1 g second among) (omega arith)
    (of_members s accepted 1 second b e among loses.group (suc (d + 18)) (follow s accepted first second b d e among loses within lossless))
