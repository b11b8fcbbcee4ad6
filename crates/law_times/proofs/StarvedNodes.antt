-- The six nodes from frame 30 on: in each round none of them or two of them request, so nobody receives a request, and the host plans as before.
use Rattle.std.proofs.Common.{◌≡◌, ◌≢◌, ◌<◌, ◌≤◌, ◌+◌, ◌-◌, ◌%◌, ◌==◌, ◌||◌, ℕ, zero, suc, List, [], Bool, true, false, inl, inr, Option, Some, None, fold}
use Rattle.std.proofs.Common.{if◌then◌else◌, is_some, option_and_then, refl, sym, ◌∙◌, ap, subst, arith, Contains, not}
use Rattle.law_service.proofs.SharedSlots.{deaf_slot, none_starts, two_start}
use Rattle.law_times.proofs.Words.{list_all, list_any, option_or, cases_Bool, cases_eq, eqb-true, false≢true, ne_eqb, or_cases, Plan, node_of, IsOverScenario}
use Rattle.law_times.proofs.Words.{ScenarioParts, IsSoundScenario, ScriptLine, over_sound, Opening, Contention, Tune, Hold, Host, Core, frame_ended, is_member}
use Rattle.law_times.proofs.Words.{plan_round, host_plan, opening, host_closes, State, StateOn, at_core, names, hosts_in, holds_in, before_frame, state_at, ids}
use Rattle.law_times.proofs.Words.{has, Hears, IsHosted, slot_in, Slot, after_round, before_slot, first_node, message_said, plan_in, rank_in, round_plan}
use Rattle.law_times.proofs.Words.{rounds, takes_part, setup_of, is_on_and, lines_of, state_after_line, Hosting, accepts_none, has_planned, host_member}
use Rattle.law_times.proofs.Words.{opening_said, in_filtered, in_whole, of_filtered, LosesNothing, TakesPart, is_linked, lose_nothing, Asker, asks_in}
use Rattle.law_times.proofs.Words.{six_askers, six_nodes, the_seven, all_passes, the_six}
use Rattle.law_times.proofs.Backoffs.{Backoff, spot, turned, asks}
use Rattle.law_times.proofs.ComputedTests.{all_of, none_found}
use Rattle.law_times.proofs.ContendingFrames.{Asking, HasBoot}
use Rattle.law_times.proofs.ContendingMembers.{goes_on, idle_asks, part_takes, says, says_if}
use Rattle.law_times.proofs.ContentionTurnsOfSix.{six_never_part}
use Rattle.law_times.proofs.HostedFrames.{rounds_are}
use Rattle.law_times.proofs.JoinedNodes.{no_lines as lines_of_slot, same_round}
use Rattle.law_times.proofs.KeptMembers.{Members, due_host, not_due, quiet, step}
use Rattle.law_times.proofs.MemberSlots.{after_member}
use Rattle.law_times.proofs.PacketFrames.{hosted_now}
use Rattle.law_times.proofs.QuietFrames.{Goes}
use Rattle.law_times.proofs.Settings.{idle, setting, node_test}
use Rattle.law_times.proofs.SilentHosts.{host_silent}
use Rattle.law_times.proofs.SixAskers.{found_two, six_apart, asker_of, one_of_six, first_asker, backoff, next_backoff, asks_by, first_there}
use Rattle.law_times.proofs.WorkedSix.{all_ask_in_30, all_linked, asks_so, bare_plan, group, host_core, host_in_30, is_asking, members_in_30, no_lines, wishes}

module _ (frames : ℕ) (accepted : IsOverScenario (six_nodes frames)) where
  abbrev s : ScenarioParts
  s = six_nodes frames

  abbrev scenario : IsSoundScenario s
  scenario = over_sound s accepted

  -- in a frame the host is as bare as before, the six hold its round, and each has a request due
  pub record Starve (x : ℕ) : Type 0 where
    pub round : ℕ
    pub past : 7 ≤ round
    pub due : ℕ
    pub range : (x ≤ due) × (due < x + 4)
    pub host : state_at s x 1 ≡ StateOn (host_core due)
    pub hold : (v : ℕ) → has the_seven v ≡ true → v ≢ 1 → Goes s x v (Hold 0 due) bare_plan
    pub asks : (a : Asker) → Contains six_askers a → Asking 1 0 0 1 (backoff a round) (state_at s x a.node)

  abbrev members_of : (x : ℕ) → Starve x → Members s 0 x 1 the_seven
  members_of x is = record { due = is.due; range = is.range; plan = bare_plan; hosts = ap setting is.host; hold = is.hold }

  pub starve_in_30 : Starve 30
  starve_in_30 = record {
    round = 7;
    past = omega arith;
    due = 33;
    range = (omega arith, omega arith);
    host = host_in_30 frames;
    hold = members_in_30 frames;
    asks = λ a there. asks_so (backoff a 7) (state_at s 30 a.node)
        (all_passes (λ a. is_asking (turned a.node (0, 0) (7 - a.first)) (state_at s 30 a.node)) six_askers (all_ask_in_30 frames) a there);
  }

  -- the host from the rounds of a frame to the next frame
  no_host_lines : (x : ℕ) → lines_of s (suc x) 1 ≡ []
  no_host_lines x = rw (ne_eqb 0 (suc x) (λ none. absurd (omega (arith, none)))) refl

  next_host : (x due : ℕ) → rounds s x (state_at s x) 1 ≡ StateOn (host_core due) → state_at s (suc x) 1 ≡ StateOn (host_core due)
  unfolding before_frame
  next_host x due on =
      ap (λ (ls : List ScriptLine). fold state_after_line (before_frame s (suc x) 1) ls) (no_host_lines x)
      ∙ ap (λ (y : State). at_core (frame_ended (setup_of s 1) x) y) on

  -- a frame without a round
  pub no_round : (x : ℕ) (is : Starve x) → x < is.due → round_plan s 0 x (state_at s x) ≡ None
  no_round x is later =
      ap (λ (o : Option ℕ). option_and_then (λ v. plan_in (state_at s x v))
      (option_or o (first_node s (is_on_and (λ c. holds_in 0 x c.tune)) (state_at s x)))) nobody_hosts
      ∙ ap (λ (o : Option ℕ). option_and_then (λ v. plan_in (state_at s x v)) o) nobody_holds
    where
      at_host : setting (state_at s x 1) ≡ Some (idle (Host 0 is.due) bare_plan)
      at_host = ap setting is.host

      each : (g : Tune → Bool) → g (Host 0 is.due) ≡ false → g (Hold 0 is.due) ≡ false
          → (v : ℕ) → has the_seven v ≡ true → is_on_and (λ c. g c.tune) (state_at s x v) ≡ false
      each g first second v there = elim (cases_eq v 1) [
        | inl same ↦ ap (λ (w : ℕ). is_on_and (λ c. g c.tune) (state_at s x w)) same
            ∙ node_test g (state_at s x 1) (Host 0 is.due) bare_plan at_host ∙ first
        | inr other ↦ node_test g (state_at s x v) (Hold 0 is.due) bare_plan (is.hold v there other) ∙ second
      ]

      nobody_hosts : first_node s (is_on_and (λ c. hosts_in 0 x c.tune)) (state_at s x) ≡ None
      nobody_hosts = none_found (λ v. is_on_and (λ c. hosts_in 0 x c.tune) (state_at s x v)) (ids s.nodes)
          (each (hosts_in 0 x) (not_due 0 x is.due later) refl)

      nobody_holds : first_node s (is_on_and (λ c. holds_in 0 x c.tune)) (state_at s x) ≡ None
      nobody_holds = none_found (λ v. is_on_and (λ c. holds_in 0 x c.tune) (state_at s x v)) (ids s.nodes)
          (each (holds_in 0 x) refl (ne_eqb is.due x (λ same. absurd (omega (arith, same, later)))))

  idle_step : (x : ℕ) → 30 ≤ x → (is : Starve x) → x < is.due → Starve (suc x)
  idle_step x after is later =
      let next = quiet s accepted 0 1 30 (suc x) the_seven (group frames (suc x)) x after (omega arith) (members_of x is) later in
      record {
        round = is.round;
        past = is.past;
        due = is.due;
        range = (omega (arith, later), (let range = is.range in omega (arith, range)));
        host = next_host x is.due quiet_host;
        hold = λ v there other. subst (λ (d : ℕ). Goes s (suc x) v (Hold 0 d) bare_plan) next.1
            (subst (λ (p : Plan). Goes s (suc x) v (Hold 0 next.0.due) p) next.2 (next.0.hold v there other));
        asks = λ a there.
            (let six = one_of_six a there in
            idle_asks s accepted 0 1 30 (suc x) the_seven 1 1 (group frames (suc x)) (λ g low high. no_lines frames g) refl a.node 1 0 six.there six.guest
            (wishes frames (suc x) a.node six.there) x (backoff a is.round) after (omega arith) (members_of x is) later (is.asks a there));
      }
    where
      quiet_host : rounds s x (state_at s x) 1 ≡ StateOn (host_core is.due)
      quiet_host =
          ap (λ (r : ℕ). after_round s r x (state_at s x) (round_plan s r x (state_at s x)) 1) (ap rank_in is.host)
          ∙ ap (λ (o : Option Plan). after_round s 0 x (state_at s x) o 1) (no_round x is later) ∙ is.host

  -- and one with a round
  module _ (x : ℕ) (after : 30 ≤ x) (is : Starve x) (now : is.due ≡ x) where
    abbrev m : Members s 0 x 1 the_seven
    m = members_of x is

    pub hosted : IsHosted s 0 x bare_plan 1
    hosted = hosted_now s accepted 0 x 1 the_seven m now

    host_now : state_at s x 1 ≡ StateOn (host_core x)
    host_now = is.host ∙ ap (λ (d : ℕ). StateOn (host_core d)) now

    member : is_member 0 x (host_core x) ≡ true
    member = host_member 0 x (host_core x) (due_host 0 x)

    -- the contention slot
    abbrev turn_slot : Slot
    turn_slot = slot_in s 0 x bare_plan 1

    takes : (v : ℕ) → has the_seven v ≡ true → TakesPart turn_slot v
    takes v there =
        (let a = first_asker in
        let six = one_of_six a first_there in
        part_takes s accepted 0 1 30 (suc x) the_seven 1 1 (group frames (suc x)) (λ g low high. no_lines frames g) refl a.node 1 0 six.there six.guest
        (wishes frames (suc x) a.node six.there) x (backoff a is.round) m now after (omega arith) (is.asks a first_there) hosted refl refl refl refl
        1 (omega arith) v there)

    known : (v : ℕ) → TakesPart turn_slot v → has the_seven v ≡ true
    known v there = in_whole (λ v. takes_part 0 turn_slot.part (before_slot s 0 x bare_plan (state_at s x) 1 v) (turn_slot.window v)) (ids s.nodes) v there

    lossless : LosesNothing s turn_slot
    lossless = lose_nothing s 0 x bare_plan (state_at s x) 1 (lines_of_slot s x 1 (no_lines frames x))

    linked : (v w : ℕ) → has the_seven v ≡ true → has the_seven w ≡ true → w ≢ v → is_linked s v w ≡ true
    linked v w first second other =
        elim (or_cases (v == w) (is_linked s v w)
        (all_of (λ w. (v == w) || is_linked s v w) the_seven
        (all_of (λ u. list_all (λ w. (u == w) || is_linked s u w) the_seven) the_seven (all_linked frames) v first) w second)) [
          | inl same ↦ absurd (other (sym (eqb-true v w same)))
          | inr is ↦ is
        ]

    passes : (v w : ℕ) → TakesPart turn_slot v → TakesPart turn_slot w → w ≢ v → turn_slot.flood.passes 0 v w ≡ true
    passes v w first second other = lossless 0 v w (omega arith) first second (linked v w (known v first) (known w second) other)

    abbrev Says : ℕ → Type 0
    Says v = is_some (message_said (turn_slot.window v)) ≡ true

    -- who says something, of the six
    says_now : (a : Asker) → Contains six_askers a → asks_in is.round a ≡ true → Says a.node
    says_now a there now_asks =
        (let six = one_of_six a there in
        let past = is.past in
        let early = six.early in
        let own : 0 + (1 + (a.node + (backoff a is.round).0) % 1) ≡ 1 = omega arith in
        subst (λ (k : ℕ). is_some (message_said ((slot_in s 0 x bare_plan k).window a.node)) ≡ true) own
        (says_if s accepted 0 1 30 (suc x) the_seven 1 1 (group frames (suc x)) (λ g low high. no_lines frames g) refl a.node 1 0 six.there six.guest
        (wishes frames (suc x) a.node six.there) x (backoff a is.round) m now after (omega arith) (is.asks a there) hosted refl refl refl refl
        (sym (asks_by a is.round (omega (arith, past, early))) ∙ now_asks)))

    quiet_now : (a : Asker) → Contains six_askers a → asks_in is.round a ≡ false → Says a.node → ⊥
    quiet_now a there none some =
        let six = one_of_six a there in
        let past = is.past in
        let early = six.early in
        let idle_now : asks (backoff a is.round) ≡ false = sym (asks_by a is.round (omega (arith, past, early))) ∙ none in
        let at = says s accepted 0 1 30 (suc x) the_seven 1 1 (group frames (suc x)) (λ g low high. no_lines frames g) refl a.node 1 0 six.there six.guest
        (wishes frames (suc x) a.node six.there) x (backoff a is.round) m now after (omega arith) (is.asks a there) hosted refl refl refl refl
        1 (omega arith) (omega arith) some in
        spot_none a.node (backoff a is.round) idle_now at
      where
        spot_none : (w : ℕ) (b : Backoff) → asks b ≡ false → spot 1 w b ≡ Some 1 → ⊥
        spot_none w b idle_now at = by_test (asks b) idle_now at
          where
            by_test : (t : Bool) → t ≡ false → (if t then Some (1 + (w + b.0) % 1) else None) ≡ Some 1 → ⊥
            by_test true never at = false≢true (sym never)
            by_test false never at = cc

    host_quiet : Says 1 → ⊥
    host_quiet some = false≢true (sym (host_silent s scenario 0 x bare_plan 1 hosted 1 (omega arith) (omega arith)) ∙ some)

    initiates : (v : ℕ) → has the_seven v ≡ true → Says v → has turn_slot.flood.initiators v ≡ true
    initiates v there some = in_filtered (λ v. is_some (message_said (turn_slot.window v))) (ids s.nodes) v there some

    -- none of the six requests, or two do, and nobody receives anything
    nobody : (k w o : ℕ) → Hears turn_slot.flood w k o → ⊥
    nobody = elim (found_two (asks_in is.round) six_askers six_apart (six_never_part is.round)) [
      | inl none ↦ none_starts turn_slot.flood (λ k w. refl) (λ w. not_one w none)
      | inr two ↦
          (let first = one_of_six two.first two.there.0 in
          let second = one_of_six two.second two.there.1 in
          two_start turn_slot.flood (λ k w. refl) two.first.node two.second.node two.differ
          (takes two.first.node first.there, takes two.second.node second.there) (
            initiates two.first.node first.there (says_now two.first two.there.0 two.both.0),
            initiates two.second.node second.there (says_now two.second two.there.1 two.both.1),
          )
          (λ w here not_first not_second x starts over. (
            passes two.first.node w (takes two.first.node first.there) here not_first,
            passes two.second.node w (takes two.second.node second.there) here not_second,
          )))
    ]
      where
        not_one : (w : ℕ) → ((a : Asker) → Contains six_askers a → asks_in is.round a ≡ false) → has turn_slot.flood.initiators w ≡ false
        not_one w none = elim (cases_Bool (has turn_slot.flood.initiators w)) [
          | inr not ↦ not
          | inl starts ↦
              (let some = of_filtered (λ v. is_some (message_said (turn_slot.window v))) (ids s.nodes) w starts in
              let there = in_whole (λ v. is_some (message_said (turn_slot.window v))) (ids s.nodes) w starts in
              elim (or_cases (1 == w) (has the_six w) there) [
                | inl same ↦ absurd (host_quiet (subst Says (sym (eqb-true 1 w same)) some))
                | inr guest ↦
                    (let a = asker_of six_askers w guest in absurd (quiet_now a.0 a.1 (none a.0 a.1) (subst Says (sym a.2) some)))
              ])
        ]

    -- so the host stays as it is
    host_at_0 : before_slot s 0 x bare_plan (state_at s x) 0 1 ≡ StateOn (host_core x)
    unfolding before_slot
    host_at_0 = host_now

    abbrev leads_0 : Hosting 0 x bare_plan (before_slot s 0 x bare_plan (state_at s x) 0 1)
    leads_0 = record { core = host_core x; on = host_at_0; due = due_host 0 x; plan = refl }

    host_at_1 : before_slot s 0 x bare_plan (state_at s x) 1 1 ≡ StateOn (host_core x)
    host_at_1 =
        after_member s 0 x bare_plan 1 hosted 1 0 Opening refl (host_core x) host_at_0 member None
        (accepts_none s 0 x bare_plan 1 hosted 0 Opening refl leads_0 (opening bare_plan) (opening_said s 0 x bare_plan 1 hosted leads_0))

    host_at_2 : before_slot s 0 x bare_plan (state_at s x) 2 1 ≡ StateOn (host_core x)
    host_at_2 = after_member s 0 x bare_plan 1 hosted 1 1 (Contention 1) refl (host_core x) host_at_1 member None (deaf_slot turn_slot nobody 1)

    planned : (host_closes (setup_of s 1) x (host_core x)).core ≡ host_core (x + 4)
    unfolding host_plan plan_round
    planned = refl

    host_after : rounds s x (state_at s x) 1 ≡ StateOn (host_core (x + 4))
    host_after =
        rounds_are s scenario 1 0 x bare_plan (ap rank_in is.host) hosted.plan
        ∙ has_planned s 0 x bare_plan 1 hosted (record { core = host_core x; on = host_at_2; due = due_host 0 x; plan = refl })
        ∙ ap (λ (c : Core). StateOn c) planned

    round_step : Starve (suc x)
    round_step =
        let next = step s accepted 0 1 30 (suc x) the_seven (group frames (suc x)) x after (omega arith) (no_lines frames x) m in
        let host = next_host x (x + 4) host_after in
        let same = same_round 0 next.due (x + 4) None None next.plan bare_plan (sym next.hosts ∙ ap setting host) in
        record {
          round = suc is.round;
          past = (let past = is.past in omega (arith, past));
          due = x + 4;
          range = (omega arith, omega arith);
          host = host;
          hold = λ v there other. subst (λ (d : ℕ). Goes s (suc x) v (Hold 0 d) bare_plan) same.0
              (subst (λ (p : Plan). Goes s (suc x) v (Hold 0 next.due) p) same.1 (next.hold v there other));
          asks = λ a there.
              (let six = one_of_six a there in
              let past = is.past in
              let early = six.early in
              subst (λ (b : Backoff). Asking 1 0 0 1 b (state_at s (suc x) a.node)) (next_backoff a is.round (omega (arith, past, early)))
              (goes_on s accepted 0 1 30 (suc x) the_seven 1 1 (group frames (suc x)) (λ g low high. no_lines frames g) refl a.node 1 0 six.there six.guest
              (wishes frames (suc x) a.node six.there) x (backoff a is.round) m now after (omega arith) (is.asks a there) hosted refl refl refl refl
              next (subst (HasBoot 1) (sym is.host) refl) (empty_acks next.plan same.1 a.node) (empty_owners next.plan same.1 a.node)));
        }
      where
        empty_acks : (p : Plan) → p ≡ bare_plan → (w : ℕ) → list_any (names w 1) p.acks ≡ false
        empty_acks p same w = ap (λ (q : Plan). list_any (names w 1) q.acks) same

        empty_owners : (p : Plan) → p ≡ bare_plan → (w : ℕ) → list_any (λ c. node_of c == w) p.owners ≡ false
        empty_owners p same w = ap (λ (q : Plan). list_any (λ c. node_of c == w) q.owners) same

  -- so in all frames
  pub starve : (n : ℕ) → Starve (n + 30)
  starve zero = starve_in_30
  starve (suc n) = subst Starve (let more : suc (n + 30) ≡ suc n + 30 = omega arith in more) (next (n + 30) (omega arith) (starve n))
    where
      next : (x : ℕ) → 30 ≤ x → Starve x → Starve (suc x)
      next x after is = elim (cases_eq is.due x) [
        | inl now ↦ round_step x after is now
        | inr other ↦ idle_step x after is (let range = is.range in omega (arith, range, other))
      ]
