-- Three rounds in a row that a member misses, and the one after which it is a member again; it has scanned for twelve frames by then.
use Rattle.std.proofs.Common.{◌≡◌, ◌≢◌, ℕ, List, [], ◌∷◌, true, nat_le, refl, arith, subst, inr, ◌≤◌, ◌⊎◌}
use Rattle.law_times.proofs.Words.{leb-true, least_passing, Plan, Scan, Hold, Host, plan_round, host_plan, schedule_heard, before_frame, state_at, walks, has}
use Rattle.law_times.proofs.Words.{over_own_lines}
use Rattle.law_times.proofs.Words.{moment, before_slot, HasTune, IsTuned, AreMembers, Begins, IsUpBy, AwaitRound, CostsFew, lossy_rounds, lossy_row, scanned}
use Rattle.law_times.proofs.Words.{IsGroup, IsLossless, power_before}
use Rattle.law_times.proofs.ComputedTests.{all_up_to, each_up_to, others_of}
use Rattle.law_times.proofs.CountedLosses.{losses_cost_few}
use Rattle.law_times.proofs.FirstRoundsOfHosts.{nodes_join}
use Rattle.law_times.proofs.ReturningNodes.{scanners_return}
use Rattle.law_times.proofs.WorkedNetworks.{three_lost, three_is_scenario}
use Rattle.law_times.proofs.WorkedNodes.{group_of, has_tune, is_tuned, plan_of}

abbrev both : List ℕ
both = 1 ∷ 2 ∷ []

begins : (e : ℕ) → Begins three_lost 1 0 e
unfolding power_before
begins e = record { first = refl; boots = record { boots = omega arith; on = refl }; stays = refl }

group : (b e : ℕ) → IsGroup three_lost 1 b e both
unfolding walks
group b e = group_of three_lost 1 b e (2 ∷ []) (λ v. 1) refl refl refl

up : (v : ℕ) → has both v ≡ true → v ≢ 1 → IsUpBy three_lost 0 5 v
unfolding power_before
up = others_of (IsUpBy three_lost 0 5) 1 (2 ∷ [])
    (record { frame = 0; range = (omega arith, omega arith); boots = record { boots = omega arith; on = refl }; stays = refl }, tt)

in_frame_5 : IsLossless three_lost 5
in_frame_5 = record { losses = refl; cuts = refl }

members : AreMembers three_lost 0 6 1 both
members =
    nodes_join three_lost (over_own_lines three_lost three_is_scenario) 1 0 6 (begins 6) both (group 5 6) up 6 (omega arith) (omega arith)
    (λ f low high. (let same : 5 ≡ f = omega (arith, low, high) in subst (IsLossless three_lost) same in_frame_5))

rows : all_up_to (λ m. nat_le (lossy_row three_lost 0 1 6 m) 3) 16 ≡ true
unfolding all_up_to lossy_row before_frame before_slot moment schedule_heard host_plan plan_round least_passing
rows = refl

-- the sixteen frames from 6 on have three rounds with losses, and in twelve of them node 2 scans
costs : CostsFew 4 three_lost 0 6 1 both 16
costs =
    losses_cost_few three_lost (over_own_lines three_lost three_is_scenario) 0 1 6 22 both (group 6 22) members 16 (omega arith)
    (λ m below. leb-true (lossy_row three_lost 0 1 6 m) 3 (each_up_to (λ m. nat_le (lossy_row three_lost 0 1 6 m) 3) 16 rows m below))

counted : (lossy_rounds three_lost 0 1 6 16 ≡ 3) × (scanned three_lost 2 6 16 ≡ 12)
unfolding lossy_rounds scanned before_frame before_slot moment schedule_heard host_plan plan_round least_passing
counted = (refl, refl)

-- and then it is a member again
back : AreMembers three_lost 0 22 1 both
unfolding lossy_row before_frame before_slot moment schedule_heard host_plan plan_round least_passing
back = costs.back refl

-- in frame 18 it has scanned for eight frames, the most from which a node is sure to be back after the host's next round, that of frame 21
abbrev plan_in_18 : Plan
plan_in_18 = plan_of (state_at three_lost 18 1)

host_in_18 : IsTuned three_lost 18 1 (Host 0 21) plan_in_18
unfolding before_frame before_slot moment schedule_heard host_plan plan_round least_passing
host_in_18 = is_tuned three_lost 18 1 (Host 0 21) refl

scans_in_18 : HasTune three_lost 18 2 (Scan 0 8)
unfolding before_frame before_slot moment schedule_heard host_plan plan_round least_passing
scans_in_18 = has_tune three_lost 18 2 (Scan 0 8) refl

awaits : AwaitRound three_lost 0 18 21 1 both
awaits = record {
  plan = plan_in_18;
  hosts = host_in_18;
  wait = others_of (λ v. IsTuned three_lost 18 v (Hold 0 21) plan_in_18 ⊎ ((w : ℕ) × (w ≤ 8) × HasTune three_lost 18 v (Scan 0 w))) 1 (2 ∷ [])
      (inr (8, omega arith, scans_in_18), tt);
}

returns : AreMembers three_lost 0 22 1 both
returns = scanners_return three_lost (over_own_lines three_lost three_is_scenario) 0 1 18 21 22 both (group 18 22) awaits (omega arith)
    (record { losses = refl; cuts = refl })
