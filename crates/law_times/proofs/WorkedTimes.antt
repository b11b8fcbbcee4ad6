-- The premises of the laws are met in worked networks, in which their bounds are reached.
use Rattle.std.proofs.Common.{◌≡◌, ◌≢◌, ◌≤◌, ◌||◌, ℕ, List, [], ◌∷◌, Bool, true, false, Some, refl, ap, arith, ◌-◌}
use Rattle.law_times.proofs.Words.{ne_eqb, least_passing, Scan, Hold, Host, plan_round, host_plan, schedule_heard, before_frame, state_at, walks, has, moment}
use Rattle.law_times.proofs.Words.{over_own_lines}
use Rattle.law_times.proofs.Words.{before_slot, AreMembers, HasTune, Hosts, IsLastHost, LosesHost, Begins, IsUpBy, IsGroup, IsLossless, StaysOff, power_before}
use Rattle.law_times.proofs.Words.{backup}
use Rattle.law_times.proofs.BackupHosts.{backups, nodes_follow}
use Rattle.law_times.proofs.ComputedTests.{each_of, others_of}
use Rattle.law_times.proofs.FirstRoundsOfHosts.{first_rounds, nodes_join}
use Rattle.law_times.proofs.KeptMembers.{members}
use Rattle.law_times.proofs.LastHosts.{last_hosts}
use Rattle.law_times.proofs.Settings.{tune_of}
use Rattle.law_times.proofs.WorkedNetworks.{line_of_three, line_is_scenario, backup_is_scenario}
use Rattle.law_times.proofs.WorkedNodes.{group_of, has_tune}

-- the first round of a line of three, and its members in frame 6
abbrev all_three : List ℕ
all_three = 1 ∷ 2 ∷ 3 ∷ []

begins : (e : ℕ) → Begins line_of_three 1 0 e
unfolding power_before
begins e = record { first = refl; boots = record { boots = omega arith; on = refl }; stays = refl }

comes_first : HasTune line_of_three 5 1 (Host 0 5)
comes_first = first_rounds line_of_three (over_own_lines line_of_three line_is_scenario) 1 0 (begins 5)

-- and no sooner
not_in_frame_4 : tune_of (state_at line_of_three 4 1) ≡ Some (Scan 0 4)
unfolding before_frame before_slot moment schedule_heard host_plan plan_round least_passing
not_in_frame_4 = refl

line_group : (b e : ℕ) → IsGroup line_of_three 1 b e all_three
unfolding walks
line_group b e = group_of line_of_three 1 b e (2 ∷ 3 ∷ []) (λ v. v - 1) refl refl refl

-- node 3 boots in the very frame of the first round
line_up : (v : ℕ) → has all_three v ≡ true → v ≢ 1 → IsUpBy line_of_three 0 5 v
unfolding power_before
line_up = others_of (IsUpBy line_of_three 0 5) 1 (2 ∷ 3 ∷ []) (
  record { frame = 2; range = (omega arith, omega arith); boots = record { boots = omega arith; on = refl }; stays = refl },
  (record { frame = 5; range = (omega arith, omega arith); boots = record { boots = omega arith; on = refl }; stays = refl }, tt),
)

-- so far from the first round on nothing is lost
line_lossless : (f : ℕ) → 5 ≤ f → IsLossless line_of_three f
line_lossless f late = record { losses = ap (λ (b : Bool). b || false) (ne_eqb 4 f (λ same. absurd (omega (arith, late, same)))); cuts = refl }

-- they are members in every frame from 6 on
line_members : (g : ℕ) → 6 ≤ g → AreMembers line_of_three 0 g 1 all_three
line_members g late =
    nodes_join line_of_three (over_own_lines line_of_three line_is_scenario) 1 0 g (begins g) all_three (line_group 5 g) line_up g
    (omega (arith, late)) (omega arith)
    (λ f low high. line_lossless f (omega (arith, low)))

-- and members in frame 6 stay members
line_stays : (g : ℕ) → 6 ≤ g → AreMembers line_of_three 0 g 1 all_three
line_stays g late =
    members line_of_three (over_own_lines line_of_three line_is_scenario) 0 1 6 g all_three (line_group 6 g) (line_members 6 (omega arith)) g late (omega arith)
    (λ f low high. line_lossless f (omega (arith, low)))

-- a host that fails in frame 6: in frame 27 the other one hosts, and not in frame 26
last_of_two : (e : ℕ) → IsLastHost backup 1 2 6 e
unfolding power_before
last_of_two e = record {
  own = refl;
  on = refl;
  stays = refl;
  others = each_of (λ v. v ≢ 2 → StaysOff backup 6 e v) (1 ∷ 2 ∷ [])
      (λ other. record { off = refl; stays = refl }, (λ other. absurd (other refl), tt));
}

takes_over : Hosts backup 1 27 2
takes_over = last_hosts 2 backup (over_own_lines backup backup_is_scenario) refl 1 2 6 27 (last_of_two 27) 27 (omega arith) (omega arith)

no_host_in_frame_26 : tune_of (state_at backup 26 2) ≡ Some (Scan 1 4)
unfolding before_frame before_slot moment schedule_heard host_plan plan_round least_passing
no_host_in_frame_26 = refl

-- frame 9 had the round that falls out
abbrev left_two : List ℕ
left_two = 2 ∷ 3 ∷ []

holds_9 : (v : ℕ) → has left_two v ≡ true → HasTune backup 6 v (Hold 0 9)
unfolding before_frame before_slot moment schedule_heard host_plan plan_round least_passing
holds_9 = each_of (λ v. HasTune backup 6 v (Hold 0 9)) left_two (has_tune backup 6 2 (Hold 0 9) refl, (has_tune backup 6 3 (Hold 0 9) refl, tt))

left_group : (e : ℕ) → IsGroup backup 2 6 e left_two
unfolding walks
left_group e = group_of backup 2 6 e (3 ∷ []) (λ v. 1) refl refl refl

loses_host : (e : ℕ) → LosesHost backup 1 2 6 9 e left_two
unfolding power_before
loses_host e = record {
  two = refl;
  first_own = refl;
  second_own = refl;
  off = record { off = refl; stays = refl };
  group = left_group e;
  hold = holds_9;
}

backup_hosts_in_27 : HasTune backup 27 2 (Host 1 27)
backup_hosts_in_27 = backups backup (over_own_lines backup backup_is_scenario) 1 2 6 9 27 left_two (loses_host 27) (omega arith)

members_of_the_backup : AreMembers backup 1 28 2 left_two
members_of_the_backup =
    nodes_follow backup (over_own_lines backup backup_is_scenario) 1 2 6 9 28 left_two (loses_host 28) (omega arith) (record { losses = refl; cuts = refl })
