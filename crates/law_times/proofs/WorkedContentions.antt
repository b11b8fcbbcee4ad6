-- Two nodes, neighbours of host 1 alone, that ask for the first time in the same round: the premises on two contenders are met in frame 6.
use Rattle.std.proofs.Common.{◌≡◌, ◌≢◌, ◌<◌, ◌≤◌, ◌++◌, ◌==◌, ◌&&◌, ◌%◌, ℕ, List, [], ◌∷◌, Bool, true, false, not, inl, inr, length, codes, refl, sym, ◌∙◌, ap}
use Rattle.std.proofs.Common.{subst, arith}
use Rattle.std.proofs.lemmas.Bool.{not-true}
use Rattle.law_service.proofs.ComputedCores.{is_on}
use Rattle.law_times.proofs.Words.{chars, is_utf8, encode, and_parts, cases_eq, eqb-true, eq-eqb, false≢true, ne_eqb, list_any, Plan, node_of, least_passing}
use Rattle.law_times.proofs.Words.{over_own_lines}
use Rattle.law_times.proofs.Words.{one, contended, network_line, IsScenario, scenario_after_words, scenario_line, ScenarioParts, put_line, script_line}
use Rattle.law_times.proofs.Words.{step_line, draft_after_line, On, Declare, Put, Hold, Host, empty_plan, plan_round, host_plan, names, stream_at, slots_named}
use Rattle.law_times.proofs.Words.{WaitingPacket, schedule_heard, before_frame, state_at, walks, moment, before_slot, lines_of, node, link, at, core_of}
use Rattle.law_times.proofs.Words.{on_core, says_none, is_linked, AreAlone, AreTwo, Asks, IsAnswered, PassesOver, changes_wish, ids_apart, IsGroup, IsLossless}
use Rattle.law_times.proofs.Words.{has, has_line}
use Rattle.law_times.proofs.ComputedTests.{Each}
use Rattle.law_times.proofs.ContendersPart.{part_on_bus}
use Rattle.law_times.proofs.ContendingFrames.{HasBoot}
use Rattle.law_times.proofs.ContentionTurnsOfTwo.{part_within}
use Rattle.law_times.proofs.QuietFrames.{Goes}
use Rattle.law_times.proofs.WorkedNodes.{group_of, members_of}

-- in frame 6 a node has a packet to request for, over which this plan passes; host 1 is a neighbour
abbrev asks_by : ScenarioParts → Plan → ℕ → Bool
asks_by s p w =
    is_on (state_at s 6 w) && not ((stream_at (core_of (state_at s 6 w)).streams 0).wish == 0)
    && ((stream_at (core_of (state_at s 6 w)).streams 0).agreed == 0) && not (length (stream_at (core_of (state_at s 6 w)).streams 0).queue == 0)
    && not (list_any (names w (core_of (state_at s 6 w)).boot) p.acks) && not (list_any (λ c. node_of c == w) p.owners)
    && not (has_line changes_wish s 6 126 w)

record IsAsking (s : ScenarioParts) (p : Plan) (w : ℕ) : Type 0 where
  on : is_on (state_at s 6 w) ≡ true
  wish : (stream_at (core_of (state_at s 6 w)).streams 0).wish ≢ 0
  agreed : (stream_at (core_of (state_at s 6 w)).streams 0).agreed ≡ 0
  waits : (stream_at (core_of (state_at s 6 w)).streams 0).queue ≢ []
  passed : PassesOver p w (core_of (state_at s 6 w)).boot
  lines : has_line changes_wish s 6 126 w ≡ false

is_asking : (s : ScenarioParts) (p : Plan) (w : ℕ) → asks_by s p w ≡ true → IsAsking s p w
is_asking s p w is =
    let seven = and_parts _ (not (has_line changes_wish s 6 126 w)) is in
    let six = and_parts _ (not (list_any (λ c. node_of c == w) p.owners)) seven.0 in
    let five = and_parts _ (not (list_any (names w (core_of (state_at s 6 w)).boot) p.acks)) six.0 in
    let four = and_parts _ (not (length (stream_at (core_of (state_at s 6 w)).streams 0).queue == 0)) five.0 in
    let three = and_parts _ ((stream_at (core_of (state_at s 6 w)).streams 0).agreed == 0) four.0 in
    let two = and_parts (is_on (state_at s 6 w)) (not ((stream_at (core_of (state_at s 6 w)).streams 0).wish == 0)) three.0 in
    record {
      on = two.0;
      wish = other _ two.1;
      agreed = eqb-true (stream_at (core_of (state_at s 6 w)).streams 0).agreed 0 three.1;
      waits = λ none. other _ four.1 (ap (λ (l : List WaitingPacket). length l) none);
      passed = record {
        acks = not-true (list_any (names w (core_of (state_at s 6 w)).boot) p.acks) five.1;
        owners = not-true (list_any (λ c. node_of c == w) p.owners) six.1;
      };
      lines = not-true (has_line changes_wish s 6 126 w) seven.1;
    }
  where
    other : (n : ℕ) → not (n == 0) ≡ true → n ≢ 0
    other n is none = false≢true (sym (not-true (n == 0) is) ∙ eq-eqb n 0 none)

abbrev asks_in_6 : (s : ScenarioParts) (p : Plan) (w : ℕ) → IsAsking s p w → Asks s 6 w
asks_in_6 s p w is = record {
  core = core_of (state_at s 6 w);
  on = on_core (state_at s 6 w) is.on;
  stream = 0;
  due = record { few = omega arith; wish = is.wish; agreed = is.agreed; waits = is.waits };
}

-- such nodes are the only ones that the script names, beside the host
module _ (s : ScenarioParts) (u v slots : ℕ) (none : (w : ℕ) → w ≢ 1 → w ≢ u → w ≢ v → (f : ℕ) → lines_of s f w ≡ []) where
  alone : (g : ℕ) (p : Plan) → AreAlone s 0 g p 1 u v
  alone g p j w after before guest says = elim (cases_eq w u) [
    | inl same ↦ inl same
    | inr second ↦ elim (cases_eq w v) [
      | inl same ↦ inr same
      | inr third ↦ absurd (false≢true (sym (says_none s w (none w guest second third) 0 g p j) ∙ says))
    ]
  ]

  two_of : (p : Plan) → IsGroup s 1 6 126 (1 ∷ u ∷ v ∷ []) → Goes s 6 1 (Host 0 9) p → Each (λ w. Goes s 6 w (Hold 0 9) p) (u ∷ v ∷ [])
      → HasBoot 1 (state_at s 6 1) → (p.rank ≡ 0) × (p.boot ≡ 1) → (asks_by s p u ≡ true) × (asks_by s p v ≡ true) → (u ≢ 1) × (v ≢ 1)
      → u % ids_apart slots ≢ v % ids_apart slots → slots_named s.profile.contend ≡ slots → ((g : ℕ) → IsLossless s g)
      → (has (1 ∷ u ∷ v ∷ []) u ≡ true) × (has (1 ∷ u ∷ v ∷ []) v ≡ true)
      → (walks (is_linked s) (1 ∷ u ∷ v ∷ []) u 1 1 ≡ true) × (walks (is_linked s) (1 ∷ u ∷ v ∷ []) v 1 1 ≡ true)
      → AreTwo s 0 1 6 126 (1 ∷ u ∷ v ∷ []) u v slots
  two_of p group hosts hold boot plan both guests differ named lossless there reach = record {
    group = group;
    members = members_of s 0 6 1 9 p (u ∷ v ∷ []) (omega arith, omega arith) hosts hold;
    lossless = λ g low high. lossless g;
    there = there;
    differ = differ;
    guests = guests;
    reach = (record { links = 1; few = omega arith; walk = reach.0 }, record { links = 1; few = omega arith; walk = reach.1 });
    named = named;
    boot = 1;
    booted = λ c on. subst (HasBoot 1) on boot;
    plan = plan;
    first = asks_in_6 s p u first;
    second = asks_in_6 s p v second;
    unnamed = (first.passed, second.passed);
    lines = (first.lines, second.lines);
    alone = λ g p after within hosted. alone g p;
  }
    where
      first : IsAsking s p u
      first = is_asking s p u both.0

      second : IsAsking s p v
      second = is_asking s p v both.1

-- with one contention slot: nodes 2 and 3 ask in frame 5, and neither is received
abbrev one_slot : ScenarioParts
one_slot = record {
  profile = one;
  frames = 130;
  sends = 1;
  nodes = node 1 ∷ node 2 ∷ node 3 ∷ [];
  rates = [];
  hosts = 1 ∷ [];
  trace = record { links = link 1 2 ∷ link 1 3 ∷ link 2 1 ∷ link 3 1 ∷ []; losses = []; cuts = []; captures = [] };
  script = at 0 1 On ∷ at 0 2 On ∷ at 0 3 On ∷ at 0 2 (Declare 0 4) ∷ at 0 3 (Declare 0 4) ∷ at 0 2 (Put 0 (0xaa ∷ [])) ∷ at 0 3 (Put 0 (0xbb ∷ [])) ∷ [];
}

one_accepted : IsScenario one_slot
unfolding draft_after_line scenario_after_words scenario_line script_line step_line put_line network_line is_utf8 chars encode
one_accepted = (
  codes "sends 1\nnode 1 0\nnode 2 0\nnode 3 0\nhost 0 1\npair 1 2\npair 1 3\nframes 130\non 0 1\non 0 2\non 0 3\n"
      ++ codes "stream 0 2 0 4\nstream 0 3 0 4\nput 0 2 0 aa\nput 0 3 0 bb\n",
  refl,
)

one_goes : Goes one_slot 6 1 (Host 0 9) (empty_plan one 0 1) × HasBoot 1 (state_at one_slot 6 1)
unfolding before_frame before_slot moment schedule_heard host_plan plan_round least_passing
one_goes = (refl, refl)

one_hold : Each (λ w. Goes one_slot 6 w (Hold 0 9) (empty_plan one 0 1)) (2 ∷ 3 ∷ [])
unfolding before_frame before_slot moment schedule_heard host_plan plan_round least_passing
one_hold = (refl, (refl, tt))

one_asks : (asks_by one_slot (empty_plan one 0 1) 2 ≡ true) × (asks_by one_slot (empty_plan one 0 1) 3 ≡ true)
unfolding before_frame before_slot moment schedule_heard host_plan plan_round least_passing
one_asks = (refl, refl)

answered : (g : ℕ) × (6 ≤ g) × (g < 126) × IsAnswered one_slot 0 g 1 2 3
unfolding walks
answered =
    part_on_bus 1 30 (part_within 1 (omega arith) (omega arith)) one_slot (over_own_lines one_slot one_accepted) 0 1 6 (1 ∷ 2 ∷ 3 ∷ []) 2 3
    (two_of one_slot 2 3 1 no_lines (empty_plan one 0 1) (group_of one_slot 1 6 126 (2 ∷ 3 ∷ []) (λ v. 1) refl refl refl) one_goes.0 one_hold
    one_goes.1 (refl, refl) one_asks (λ same. absurd (omega (arith, same)), λ same. absurd (omega (arith, same))) (λ same. absurd (omega (arith, same))) refl
    (λ g. record { losses = refl; cuts = refl }) (refl, refl) (refl, refl))
  where
    no_lines : (w : ℕ) → w ≢ 1 → w ≢ 2 → w ≢ 3 → (f : ℕ) → lines_of one_slot f w ≡ []
    no_lines w first second third f =
        rw (ne_eqb 1 w (λ same. first (sym same)), ne_eqb 2 w (λ same. second (sym same)), ne_eqb 3 w (λ same. third (sym same))) refl

-- with three contention slots, and ids that are equal modulo 16: nodes 2 and 18 have a packet to send from frame 6 on
abbrev three_slots : ScenarioParts
three_slots = record {
  profile = contended 3;
  frames = 130;
  sends = 1;
  nodes = node 1 ∷ node 2 ∷ node 18 ∷ [];
  rates = [];
  hosts = 1 ∷ [];
  trace = record { links = link 1 2 ∷ link 1 18 ∷ link 2 1 ∷ link 18 1 ∷ []; losses = []; cuts = []; captures = [] };
  script = at 0 1 On ∷ at 0 2 On ∷ at 0 18 On ∷ at 0 2 (Declare 0 5) ∷ at 0 18 (Declare 0 5) ∷ at 6 2 (Put 0 (0xaa ∷ []))
      ∷ at 6 18 (Put 0 (0xbb ∷ [])) ∷ [];
}

three_accepted : IsScenario three_slots
unfolding draft_after_line scenario_after_words scenario_line script_line step_line put_line network_line is_utf8 chars encode
three_accepted = (
  codes "profile 2\ncontend 3\nsends 1\nnode 1 0\nnode 2 0\nnode 18 0\nhost 0 1\npair 1 2\npair 1 18\nframes 130\non 0 1\non 0 2\non 0 18\n"
      ++ codes "stream 0 2 0 5\nstream 0 18 0 5\nput 6 2 0 aa\nput 6 18 0 bb\n",
  refl,
)

three_goes : Goes three_slots 6 1 (Host 0 9) (empty_plan (contended 3) 0 1) × HasBoot 1 (state_at three_slots 6 1)
unfolding before_frame before_slot moment schedule_heard host_plan plan_round least_passing
three_goes = (refl, refl)

three_hold : Each (λ w. Goes three_slots 6 w (Hold 0 9) (empty_plan (contended 3) 0 1)) (2 ∷ 18 ∷ [])
unfolding before_frame before_slot moment schedule_heard host_plan plan_round least_passing
three_hold = (refl, (refl, tt))

three_ask : (asks_by three_slots (empty_plan (contended 3) 0 1) 2 ≡ true) × (asks_by three_slots (empty_plan (contended 3) 0 1) 18 ≡ true)
unfolding before_frame before_slot moment schedule_heard host_plan plan_round least_passing
three_ask = (refl, refl)

answered_of_three : (g : ℕ) × (6 ≤ g) × (g < 126) × IsAnswered three_slots 0 g 1 2 18
unfolding walks
answered_of_three =
    part_on_bus 3 30 (part_within 3 (omega arith) (omega arith)) three_slots (over_own_lines three_slots three_accepted) 0 1 6 (1 ∷ 2 ∷ 18 ∷ []) 2 18
    (two_of three_slots 2 18 3 no_lines (empty_plan (contended 3) 0 1) (group_of three_slots 1 6 126 (2 ∷ 18 ∷ []) (λ v. 1) refl refl refl) three_goes.0
    three_hold three_goes.1 (refl, refl) three_ask (λ same. absurd (omega (arith, same)), λ same. absurd (omega (arith, same)))
    (λ same. absurd (omega (arith, same))) refl (λ g. record { losses = refl; cuts = refl }) (refl, refl) (refl, refl))
  where
    no_lines : (w : ℕ) → w ≢ 1 → w ≢ 2 → w ≢ 18 → (f : ℕ) → lines_of three_slots f w ≡ []
    no_lines w first second third f =
        rw (ne_eqb 1 w (λ same. first (sym same)), ne_eqb 2 w (λ same. second (sym same)), ne_eqb 18 w (λ same. third (sym same))) refl
