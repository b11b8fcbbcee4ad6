-- A stream with a slot in six seconds: two have come due by frame 9, and eight by frame 17.
use Rattle.std.proofs.Common.{◌≡◌, ◌+◌, ◌≤◌, ℕ, List, [], ◌∷◌, Some, refl, sym, subst, arith, map, Contains}
use Rattle.law_times.proofs.Words.{range_with_len, contains_head, least_passing, Plan, one, ScenarioParts, Host, plan_round, gap_of, total, host_plan, State}
use Rattle.law_times.proofs.Words.{over_own_lines}
use Rattle.law_times.proofs.Words.{StateOff, StateOn, schedule_heard, TableEntry, Core, empty_plan, before_frame, state_at, moment, before_slot, IsHosted}
use Rattle.law_times.proofs.Words.{node_before, state_after_round, FitsNextRound, PlansRound, core_of, on_core, IsOnPace, HasEntry, HasSlowStreams}
use Rattle.law_times.proofs.Words.{latency_bound}
use Rattle.law_times.proofs.GrownTables.{entries_at}
use Rattle.law_times.proofs.LatentSlots.{keep_pace, owed_fits, slots_come}
use Rattle.law_times.proofs.Settings.{tune_of}
use Rattle.law_times.proofs.WorkedNetworks.{slow_stream, slow_is_scenario}

pub has_entry : (s : ScenarioParts) (host frame rank due : ℕ) (e : TableEntry) → tune_of (state_at s frame host) ≡ Some (Host rank due)
    → entries_at (state_at s frame host) ≡ e ∷ [] → HasEntry s host frame due e
has_entry s host frame rank due e tune only = by_state (state_at s frame host) refl tune only
  where
    by_state : (x : State) → state_at s frame host ≡ x → tune_of x ≡ Some (Host rank due) → entries_at x ≡ e ∷ [] → HasEntry s host frame due e
    by_state (StateOff boots) at tune only = absurd (cc)
    by_state (StateOn c) at tune only = record {
      core = c;
      rank = rank;
      on = at;
      tune = cc;
      there = subst (λ (l : List TableEntry). Contains l e) (sym only) (contains_head e []);
    }

abbrev granted_by : ℕ → ℕ → TableEntry
granted_by granted unheard = record { code = 8; boot = 1; interval = 6; accepted = 5; granted = granted; unheard = unheard }

slow : HasSlowStreams slow_stream
slow = refl

in_frame_6 : HasEntry slow_stream 1 6 9 (granted_by 2 0)
unfolding before_frame before_slot moment schedule_heard host_plan plan_round least_passing
in_frame_6 = has_entry slow_stream 1 6 0 9 (granted_by 2 0) refl refl

in_frame_14 : HasEntry slow_stream 1 14 17 (granted_by 8 4)
unfolding before_frame before_slot moment schedule_heard host_plan plan_round least_passing
in_frame_14 = has_entry slow_stream 1 14 0 17 (granted_by 8 4) refl refl

-- so from frame 10 on five slots come within ten frames, which have rounds up to frame 17 at least
five_slots : (latency_bound 5 6 4 ≡ 10) × (2 + 5 ≤ 8)
five_slots = (
  refl,
  slots_come 5 6 4 slow_stream (over_own_lines slow_stream slow_is_scenario) slow refl 1 6 14 9 17 10 (granted_by 2 0) (granted_by 8 4) in_frame_6 in_frame_14
      (record { code = refl; interval = refl; accepted = refl }) refl (omega arith) (omega arith),
)

-- by frame 17 it has been granted just what has come due: 4 seconds times 12 frames in sixes
on_pace : IsOnPace 4 17 (granted_by 8 4)
on_pace =
    keep_pace slow_stream (over_own_lines slow_stream slow_is_scenario) slow 14 1 in_frame_14.rank 17 in_frame_14.core in_frame_14.on
    in_frame_14.tune (granted_by 8 4) in_frame_14.there

-- what is owed by the second round, that of frame 9, fits into it
abbrev first_plan : Plan
first_plan = empty_plan one 0 1

hosted : IsHosted slow_stream 0 5 first_plan 1
unfolding before_frame before_slot moment schedule_heard host_plan plan_round least_passing
hosted = record { known = refl; due = refl; plan = refl }

abbrev planning : Core
planning = core_of (node_before slow_stream 0 5 first_plan 2 1)

abbrev planned : Core
planned = core_of (state_after_round slow_stream 0 5 first_plan 1)

plans : PlansRound slow_stream 0 5 first_plan 1 planning 9 planned.plan
unfolding before_frame before_slot moment schedule_heard host_plan plan_round least_passing
plans = record {
  on = on_core (node_before slow_stream 0 5 first_plan 2 1) refl;
  next = planned;
  next_on = on_core (state_after_round slow_stream 0 5 first_plan 1) refl;
  tune = refl;
  planned = refl;
}

fits : FitsNextRound slow_stream 5 1 planning 9
fits = owed_fits slow_stream (over_own_lines slow_stream slow_is_scenario) slow 0 5 first_plan 1 hosted planning 9 planned.plan plans

-- of 32 streams with a slot in each frame all fits into the round of the next frame, and no more into one of two frames
abbrev each_frame : ℕ → TableEntry
each_frame c = record { code = c; boot = 1; interval = 4; accepted = 5; granted = 0; unheard = 0 }

full_table : (total 4 6 (map each_frame (range_with_len 40 32)) ≡ 32) × (total 4 7 (map each_frame (range_with_len 40 32)) ≡ 64)
    × (gap_of 4 5 (map each_frame (range_with_len 40 32)) ≡ 1)
full_table = (refl, refl, refl)
