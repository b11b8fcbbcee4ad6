-- A stream with a slot in seventeen seconds, accepted in frame 5: the packet that waits at first in frame 6 is delivered in frame 13, the last
-- that its bound allows.
use Rattle.std.proofs.Common.{◌≡◌, ◌≢◌, ◌≤◌, ℕ, List, [], ◌∷◌, true, codes, refl, sym, ◌∙◌, ap, subst, arith, Contains}
use Rattle.law_times.proofs.Words.{is_utf8, chars, encode, one_of, Ask, Plan, least_passing, one, network_line, IsScenario, scenario_after_words, scenario_line}
use Rattle.law_times.proofs.Words.{over_own_lines}
use Rattle.law_times.proofs.Words.{ScenarioParts, script_line, step_line, put_line, draft_after_line, On, Declare, Put, Delivery, plan_round, host_plan, State}
use Rattle.law_times.proofs.Words.{schedule_heard, TableEntry, before_frame, bus_deliveries, state_at, walks, has, moment, before_slot, node, link, at, core_of}
use Rattle.law_times.proofs.Words.{Begins, IsUpBy, HasEntry, HasSlowStreams, latency_bound, AwaitsSlot, IsAgreed, IsDelivered, IsQueued, IsServed, StreamPacket}
use Rattle.law_times.proofs.Words.{IsGroup, power_before, AreMembers}
use Rattle.law_times.proofs.AgreedPackets.{agreed_come}
use Rattle.law_times.proofs.ComputedTests.{others_of}
use Rattle.law_times.proofs.FirstRoundsOfHosts.{nodes_join}
use Rattle.law_times.proofs.LatentPackets.{packets_come}
use Rattle.law_times.proofs.WorkedNodes.{group_of, plan_of}
use Rattle.law_times.proofs.WorkedPaces.{has_entry}

abbrev s : ScenarioParts
s = record {
  profile = one;
  frames = 20;
  sends = 1;
  nodes = node 1 ∷ node 2 ∷ [];
  rates = [];
  hosts = 1 ∷ [];
  trace = record { links = link 1 2 ∷ link 2 1 ∷ []; losses = []; cuts = []; captures = [] };
  script = at 0 1 On ∷ at 0 2 On ∷ at 0 2 (Declare 0 17) ∷ at 0 2 (Put 0 (0xaa ∷ [])) ∷ [];
}

accepted : IsScenario s
unfolding draft_after_line scenario_after_words scenario_line script_line step_line put_line network_line is_utf8 chars encode
accepted = (codes "sends 1\nnode 1 0\nnode 2 0\nhost 0 1\npair 1 2\nframes 20\non 0 1\non 0 2\nstream 0 2 0 17\nput 0 2 0 aa\n", refl)

slow : HasSlowStreams s
slow = refl

abbrev both : List ℕ
both = 1 ∷ 2 ∷ []

begins : (e : ℕ) → Begins s 1 0 e
unfolding power_before
begins e = record { first = refl; boots = record { boots = omega arith; on = refl }; stays = refl }

group : (b e : ℕ) → IsGroup s 1 b e both
unfolding walks
group b e = group_of s 1 b e (2 ∷ []) (λ v. 1) refl refl refl

up : (v : ℕ) → has both v ≡ true → v ≢ 1 → IsUpBy s 0 5 v
unfolding power_before
up = others_of (IsUpBy s 0 5) 1 (2 ∷ [])
    (record { frame = 0; range = (omega arith, omega arith); boots = record { boots = omega arith; on = refl }; stays = refl }, tt)

members : AreMembers s 0 6 1 both
members =
    nodes_join s (over_own_lines s accepted) 1 0 6 (begins 6) both (group 5 6) up 6 (omega arith) (omega arith)
    (λ f low high. record { losses = refl; cuts = refl })

abbrev packet : StreamPacket
packet = record { node = 2; boot = 1; stream = 0; packet = record { seq = 0; payload = 0xaa ∷ [] } }

waits : IsQueued (state_at s 6 2) packet 0
unfolding before_frame before_slot moment schedule_heard host_plan plan_round least_passing
waits = record { core = core_of (state_at s 6 2); on = refl; boot = refl; place = refl }

awaits : AwaitsSlot s 0 1 6 13 both packet 0
awaits = record {
  ends = omega arith;
  group = group 6 13;
  members = members;
  lossless = λ g low high. record { losses = refl; cuts = refl };
  there = refl;
  stream = omega arith;
  queued = waits;
  stays = refl;
}

abbrev entry : TableEntry
entry = record { code = 8; boot = 1; interval = 17; accepted = 5; granted = 1; unheard = 0 }

in_frame_10 : HasEntry s 1 10 13 entry
unfolding before_frame before_slot moment schedule_heard host_plan plan_round least_passing
in_frame_10 = has_entry s 1 10 0 13 entry refl refl

-- in frame 6 node 2 and the host have agreed to the stream, and no slot has come due yet
abbrev first_entry : TableEntry
first_entry = record { code = 8; boot = 1; interval = 17; accepted = 5; granted = 0; unheard = 0 }

in_frame_6 : HasEntry s 1 6 9 first_entry
unfolding before_frame before_slot moment schedule_heard host_plan plan_round least_passing
in_frame_6 = has_entry s 1 6 0 9 first_entry refl refl

abbrev acked : Ask
acked = record { node = 2; boot = 1; stream = 0; interval = 17 }

acks_in_6 : (plan_of (state_at s 6 1)).acks ≡ acked ∷ []
unfolding before_frame before_slot moment schedule_heard host_plan plan_round least_passing
acks_in_6 = refl

rank_in_6 : (plan_of (state_at s 6 1)).rank ≡ 0
unfolding before_frame before_slot moment schedule_heard host_plan plan_round least_passing
rank_in_6 = refl

boot_in_6 : (plan_of (state_at s 6 1)).boot ≡ (core_of (state_at s 6 1)).boot
unfolding before_frame before_slot moment schedule_heard host_plan plan_round least_passing
boot_in_6 = refl

plan_is : members.plan ≡ plan_of (state_at s 6 1)
plan_is = sym (ap plan_of members.hosts.on ∙ members.hosts.plan)

agreed : IsAgreed s 0 1 6 members.plan packet first_entry
unfolding before_frame before_slot moment schedule_heard host_plan plan_round least_passing
agreed = record {
  core = core_of (state_at s 6 2);
  on = refl;
  wish = refl;
  agreed = refl;
  lately = omega arith;
  acks = λ a there of_code. sym (ap (λ (b : Ask). b.interval)
      (one_of acked a (subst (λ (l : List Ask). Contains l a) (ap (λ (p : Plan). p.acks) plan_is ∙ acks_in_6) there)));
  of_rank = ap (λ (p : Plan). p.rank) plan_is ∙ rank_in_6;
  of_boot = λ c on. ap (λ (p : Plan). p.boot) plan_is ∙ boot_in_6 ∙ ap (λ (x : State). (core_of x).boot) on;
}

served : IsServed s 0 1 6 13 both members.plan packet first_entry
unfolding walks
served = record {
  guest = λ same. absurd (omega (arith, same));
  reach = record { links = 1; few = omega arith; walk = refl };
  keeps = refl;
  agreed = agreed;
}

bound : latency_bound 1 17 4 ≡ 7
bound = refl

arrives : (g : ℕ) × (6 ≤ g) × (g ≤ 13) × IsDelivered s 0 g both packet
arrives = packets_come 1 17 4 s (over_own_lines s accepted) slow refl 0 1 6 both packet 0 awaits (omega arith) 13 entry in_frame_10 refl refl (omega arith)

arrives_too : (g : ℕ) × (6 ≤ g) × (g ≤ 13) × IsDelivered s 0 g both packet
unfolding awaits
arrives_too = agreed_come 1 17 4 s (over_own_lines s accepted) slow refl 0 1 6 both packet 0 awaits (omega arith) 9 first_entry in_frame_6 refl refl
    (omega arith) served

abbrev in_frame_13 : Delivery
in_frame_13 = record { frame = 13; rank = 0; slot = 1; node = 1; from = 2; boot = 1; stream = 0; seq = 0; payload = 0xaa ∷ [] }

and_no_sooner : bus_deliveries s ≡ in_frame_13 ∷ []
unfolding before_frame before_slot moment schedule_heard host_plan plan_round least_passing
and_no_sooner = refl
