-- The first frames of the six nodes, by computation: up to frame 30 nobody is answered, and then each has a request due.
use Rattle.std.proofs.Common.{◌≡◌, ◌≢◌, ◌-◌, ◌==◌, ◌&&◌, ◌||◌, ℕ, List, [], ◌++◌, Bool, true, false, not, None, length, codes, refl, ◌∙◌, ap, arith, sym}
use Rattle.law_times.proofs.Words.{list_all, is_utf8, chars, encode, and_parts, eq-eqb, eqb-true, false≢true, Plan, least_passing, one, network_line}
use Rattle.law_times.proofs.Words.{IsScenario, scenario_after_words, scenario_line, ScenarioParts, script_line, step_line, put_line, draft_after_line, Hold}
use Rattle.law_times.proofs.Words.{Host, Core, empty_plan, plan_round, host_plan, State, StateOff, StateOn, WaitingPacket, cleared, is_host, schedule_heard}
use Rattle.law_times.proofs.Words.{stream_at, no_table, before_frame, state_at, walks, has, moment, before_slot, round_deliveries, is_linked, six_askers}
use Rattle.law_times.proofs.Words.{changes_wish, IsGroup, IsLossless, has_line, six_nodes, the_seven, the_six, not-true}
use Rattle.law_times.proofs.Backoffs.{Backoff, turned}
use Rattle.law_times.proofs.ComputedTests.{all_up_to, each_of, others_of}
use Rattle.law_times.proofs.ContendingFrames.{Asking}
use Rattle.law_times.proofs.QuietFrames.{Goes}
use Rattle.law_times.proofs.WorkedNodes.{group_of}

-- their text, for 800 frames
pub six_800 : IsScenario (six_nodes 800)
unfolding draft_after_line scenario_after_words scenario_line script_line step_line put_line network_line is_utf8 chars encode
six_800 = (
  codes "sends 1\nnode 1 0\nnode 16 0\nnode 17 0\nnode 18 0\nnode 19 0\nnode 21 0\nnode 27 0\nhost 0 1\n"
      ++ codes "pair 1 16\npair 1 17\npair 1 18\npair 1 19\npair 1 21\npair 1 27\npair 16 17\npair 16 18\npair 16 19\npair 16 21\npair 16 27\n"
      ++ codes "pair 17 18\npair 17 19\npair 17 21\npair 17 27\npair 18 19\npair 18 21\npair 18 27\npair 19 21\npair 19 27\npair 21 27\n"
      ++ codes "frames 800\non 0 1\non 0 16\non 0 17\non 0 18\non 0 19\non 0 21\non 0 27\n"
      ++ codes "stream 0 16 0 4\nstream 0 17 0 4\nstream 0 18 0 4\nstream 0 19 0 4\nstream 0 21 0 4\nstream 0 27 0 4\n"
      ++ codes "put 2 16 0 aa\nput 2 17 0 aa\nput 2 18 0 aa\nput 6 19 0 aa\nput 22 21 0 aa\nput 30 27 0 aa\n",
  refl,
)

-- the plan that names nobody, and the host with it
abbrev pub bare_plan : Plan
bare_plan = empty_plan one 0 1

abbrev pub host_core : ℕ → Core
host_core due = record { boot = 1; tune = Host 0 due; plan = bare_plan; streams = cleared; table = no_table; own_slot = None; kept = [] }

-- a request of its first stream is due, and what it asks by
abbrev pub is_asking : Backoff → State → Bool
is_asking b (StateOff boots) = false
is_asking b (StateOn c) =
    (c.boot == 1) && not ((stream_at c.streams 0).wish == 0) && ((stream_at c.streams 0).agreed == 0) && not (length (stream_at c.streams 0).queue == 0)
    && (c.streams.tries == b.0) && (c.streams.skips == b.1) && is_host c.streams.host 0 1

pub asks_so : (b : Backoff) (x : State) → is_asking b x ≡ true → Asking 1 0 0 1 b x
asks_so b (StateOff boots) is = absurd (false≢true is)
asks_so b (StateOn c) is =
    let seven = and_parts _ (is_host c.streams.host 0 1) is in
    let six = and_parts _ (c.streams.skips == b.1) seven.0 in
    let five = and_parts _ (c.streams.tries == b.0) six.0 in
    let four = and_parts _ (not (length (stream_at c.streams 0).queue == 0)) five.0 in
    let three = and_parts _ ((stream_at c.streams 0).agreed == 0) four.0 in
    let two = and_parts (c.boot == 1) (not ((stream_at c.streams 0).wish == 0)) three.0 in
    record {
      booted = eqb-true c.boot 1 two.0;
      new = record {
        few = omega arith;
        wish = some (stream_at c.streams 0).wish two.1;
        agreed = eqb-true (stream_at c.streams 0).agreed 0 three.1;
        waits = λ none. some (length (stream_at c.streams 0).queue) four.1 (ap (λ (l : List WaitingPacket). length l) none);
      };
      backoff = ap (λ (t : ℕ). (t, c.streams.skips)) (eqb-true c.streams.tries b.0 five.1) ∙ ap (λ (k : ℕ). (b.0, k)) (eqb-true c.streams.skips b.1 six.1);
      knows = seven.1;
    }
  where
    some : (n : ℕ) → not (n == 0) ≡ true → n ≢ 0
    some n is none = false≢true (sym (not-true (n == 0) is) ∙ eq-eqb n 0 none)

module _ (frames : ℕ) where
  abbrev s : ScenarioParts
  s = six_nodes frames

  pub no_lines : (g : ℕ) → IsLossless s g
  no_lines g = record { losses = refl; cuts = refl }

  pub group : (e : ℕ) → IsGroup s 1 30 e the_seven
  unfolding walks
  group e = group_of s 1 30 e the_six (λ v. 1) refl refl refl

  pub all_linked : list_all (λ u. list_all (λ w. (u == w) || is_linked s u w) the_seven) the_seven ≡ true
  all_linked = refl

  pub wishes : (e : ℕ) → (v : ℕ) → has the_seven v ≡ true → has_line changes_wish s 30 e v ≡ false
  wishes e = each_of (λ v. has_line changes_wish s 30 e v ≡ false) the_seven (refl, (refl, (refl, (refl, (refl, (refl, (refl, tt)))))))

  -- the host's plan and its table are bare
  abbrev pub is_bare : State → Bool
  is_bare (StateOff boots) = true
  is_bare (StateOn c) = (length c.plan.acks == 0) && (length c.plan.owners == 0) && (length c.table.entries == 0)

  pub bare_at_first : all_up_to (λ f. is_bare (state_at s f 1)) 30 ≡ true
  unfolding before_frame before_slot moment schedule_heard host_plan plan_round least_passing all_up_to
  bare_at_first = refl

  pub none_at_first : all_up_to (λ f. length (round_deliveries s 0 f (state_at s f)) == 0) 30 ≡ true
  unfolding before_frame before_slot moment schedule_heard host_plan plan_round least_passing all_up_to
  none_at_first = refl

  pub host_in_30 : state_at s 30 1 ≡ StateOn (host_core 33)
  unfolding before_frame before_slot moment schedule_heard host_plan plan_round least_passing
  host_in_30 = refl

  pub members_in_30 : (v : ℕ) → has the_seven v ≡ true → v ≢ 1 → Goes s 30 v (Hold 0 33) bare_plan
  unfolding before_frame before_slot moment schedule_heard host_plan plan_round least_passing
  members_in_30 = others_of (λ v. Goes s 30 v (Hold 0 33) bare_plan) 1 the_six (refl, (refl, (refl, (refl, (refl, (refl, tt))))))

  -- each of the six has a request due, after so many rounds in which it could ask
  pub all_ask_in_30 : list_all (λ a. is_asking (turned a.node (0, 0) (7 - a.first)) (state_at s 30 a.node)) six_askers ≡ true
  unfolding before_frame before_slot moment schedule_heard host_plan plan_round least_passing turned
  all_ask_in_30 = refl
