-- After a round in which nothing is lost each node that takes part within reach of the host holds its next round.
use Rattle.std.proofs.Common.{◌≡◌, ◌==◌, ◌&&◌, ◌||◌, ℕ, suc, List, Bool, true, false, Option, Some, None, nat_lt, refl, sym, ◌∙◌, ap}
use Rattle.law_service.specs.ScheduleService.{AcceptsClosing}
use Rattle.law_times.proofs.Words.{eqb-true, and_parts, cond-true, lt-ltb, Plan, LoseLine, IsOverScenario, ScenarioParts, IsSoundScenario, over_sound, Tune}
use Rattle.law_times.proofs.Words.{Scan, Hold, Host, last_slot, State, StateOff, StateOn, rank_of, before_frame, state_at, has, IsHosted, slot_in, rank_in}
use Rattle.law_times.proofs.Words.{rounds, setup_of, HasNoLines, LosesNothing, closings, lose_nothing, none_harder, IsLossless, IsReached}
use Rattle.law_times.proofs.HostedFrames.{Planned, due_round, is_hosted, rounds_are, rank_hosted}
use Rattle.law_times.proofs.QuietFrames.{ended}
use Rattle.law_times.proofs.QuietRounds.{hosts_round}
use Rattle.law_times.proofs.ReachedNodes.{IsThere, in_round, reached_within}
use Rattle.law_times.proofs.Settings.{Setting, setting, idle, tune_of}

-- no line of the frame, so none of any of its slots
pub no_lines : (s : ScenarioParts) (f j : ℕ) → IsLossless s f → HasNoLines s f j
no_lines s f j lossless = record {
  losses = none_harder (λ (l : LoseLine). l.frame == f) (λ l. (l.frame == f) && (l.slot == j)) (λ l is. (and_parts (l.frame == f) (l.slot == j) is).0)
      s.trace.losses lossless.losses;
  cuts = lossless.cuts;
}

or_none : (a : Bool) → (a || false) ≡ true → a ≡ true
or_none true is = refl
or_none false is = is

-- the rank of a node that takes part
pub there_rank : (s : ScenarioParts) (rank f v : ℕ) → IsThere s rank f v → rank_in (state_at s f v) ≡ rank
there_rank s rank f v there = by_state (state_at s f v) there.on
  where
    by_tune : (t : Tune) → in_round rank f t ≡ true → rank_of t ≡ rank
    by_tune (Scan r w) takes = eqb-true r rank takes
    by_tune (Hold r d) takes = eqb-true r rank (and_parts (r == rank) (d == f) (or_none _ takes)).0
    by_tune (Host r d) takes = eqb-true r rank (and_parts (r == rank) (d == f) (or_none _ (or_none _ takes))).0

    by_state : (x : State) → tune_of x ≡ Some there.tune → rank_in x ≡ rank
    by_state (StateOff boots) on = absurd (cc)
    by_state (StateOn c) on = let same : c.tune ≡ there.tune = cc in ap rank_of same ∙ by_tune there.tune there.takes

pub same_round : (rank d e : ℕ) (a b : Option ℕ) (p q : Plan)
    → ◌≡◌ {A = Option Setting} (Some (record { tune = Host rank d; own_slot = a; plan = p })) (Some (record { tune = Host rank e; own_slot = b; plan = q }))
    → (d ≡ e) × (p ≡ q)
same_round rank d e a b p q is = (host_due (ap tune_or is), ap plan_or is)
  where
    tune_or : Option Setting → Tune
    tune_or None = Scan 0 0
    tune_or (Some k) = k.tune

    plan_or : Option Setting → Plan
    plan_or None = p
    plan_or (Some k) = k.plan

    host_due : Host rank d ≡ Host rank e → d ≡ e
    host_due same = cc

module _ (s : ScenarioParts) (accepted : IsOverScenario s) (rank f host : ℕ) (due : hosts_round rank f (state_at s f host) ≡ true) where
  abbrev scenario : IsSoundScenario s
  scenario = over_sound s accepted

  -- the next round of the host
  pub next : Planned (rounds s f (state_at s f) host) rank f
  next = due_round s scenario host rank f due

  pub host_next : setting (before_frame s (suc f) host) ≡ Some (idle (Host rank next.due) next.plan)
  unfolding before_frame
  host_next = (ended (setup_of s host) f (rounds s f (state_at s f) host)
      (record { tune = Host rank next.due; own_slot = next.own_slot; plan = next.plan }) next.goes).1

  module _ (lossless : IsLossless s f) (among : List ℕ) (all : (v : ℕ) → has among v ≡ true → IsThere s rank f v) where
    abbrev p : Plan
    p = (is_hosted s scenario host rank f due).0

    hosted : IsHosted s rank f p host
    hosted = (is_hosted s scenario host rank f due).1

    loses_none : LosesNothing s (slot_in s rank f p (last_slot p))
    loses_none = lose_nothing s rank f p (state_at s f) (last_slot p) (no_lines s f (last_slot p) lossless)

    pub joins : (v : ℕ) → has among v ≡ true → (v ≡ host → ⊥) → IsReached s among host v
        → setting (before_frame s (suc f) v) ≡ Some (idle (Hold rank next.due) next.plan)
    unfolding before_frame
    joins v there other reached =
        let within = reached_within s rank f p among host v all there other reached in
        let taken : AcceptsClosing s rank f p host within.0 v = closings s accepted rank f p host hosted loses_none within.0 v within.1 in
        let held : setting (rounds s f (state_at s f) v) ≡ Some
        (record { tune = Hold rank taken.due; own_slot = taken.holding.own_slot; plan = taken.holding.plan }) =
        ap setting (rounds_are s scenario v rank f p (there_rank s rank f v (all v there)) hosted.plan ∙ taken.on)
        ∙ ap (λ (t : Tune). Some (record { tune = t; own_slot = taken.holding.own_slot; plan = taken.holding.plan })) taken.holds in
        let hosts : setting (rounds s f (state_at s f) host)
        ≡ Some (record { tune = Host rank taken.due; own_slot = taken.hosting.own_slot; plan = taken.hosting.plan }) =
        ap setting (rounds_are s scenario host rank f p (rank_hosted rank f (state_at s f host) due) hosted.plan ∙ taken.host_on)
        ∙ ap (λ (t : Tune). Some (record { tune = t; own_slot = taken.hosting.own_slot; plan = taken.hosting.plan })) taken.hosts in
        let same = same_round rank taken.due next.due taken.hosting.own_slot next.own_slot taken.hosting.plan next.plan (sym hosts ∙ next.goes) in
        let end = ended (setup_of s v) f (rounds s f (state_at s f) v)
        (record { tune = Hold rank taken.due; own_slot = taken.holding.own_slot; plan = taken.holding.plan }) held in
        end.1 ∙ ap (λ (t : Tune). Some (idle t taken.holding.plan))
        (cond-true (nat_lt f taken.due) (Hold rank taken.due) (Scan rank 0) (lt-ltb f taken.due taken.later))
        ∙ ap (λ (d : ℕ). Some (idle (Hold rank d) taken.holding.plan)) same.0 ∙ ap (λ (q : Plan). Some (idle (Hold rank next.due) q)) (taken.plan ∙ same.1)
