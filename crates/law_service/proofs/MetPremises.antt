-- The premises of the laws are met in a worked network: the first round of a line of three nodes.
use Rattle.std.proofs.Common.{◌≡◌, ◌<◌, ℕ, zero, suc, [], false, Some, refl, arith}
use Rattle.law_service.proofs.Words.{one, Plan, least_passing, ScenarioParts, empty_plan, plan_round, host_plan, RequestOf, schedule_heard, before_frame}
use Rattle.law_service.proofs.Words.{state_at, walks, moment, before_slot, message_said, is_linked, HasNoLines, LosesNothing, IsWithin, IsHosted, slot_in}
use Rattle.law_service.proofs.LosslessSlots.{lose_nothing}
use Rattle.law_service.proofs.WorkedReach.{three}

abbrev pub s : ScenarioParts
s = three []

abbrev pub p : Plan
p = empty_plan one 0 1

pub hosted : IsHosted s 0 5 p 1
unfolding before_frame before_slot moment schedule_heard host_plan plan_round least_passing
hosted = record { known = refl; due = refl; plan = refl }

untouched : (j : ℕ) → HasNoLines s 5 j
untouched j = record { losses = refl; cuts = refl }

pub lossless : (j : ℕ) → LosesNothing s (slot_in s 0 5 p j)
lossless j = lose_nothing s 0 5 p (state_at s 5) j (untouched j)

-- node 3 is two hops from the host in the opening slot, and the host two hops from it in the contention slot
listens : IsWithin s (slot_in s 0 5 p 0) 1 2 3
unfolding before_frame before_slot moment schedule_heard host_plan plan_round least_passing walks
listens = record { there = refl; distance = record { reached = refl; nearest = nearest }; few = omega arith }
  where
    nearest : (i : ℕ) → i < 2 → walks (is_linked s) (slot_in s 0 5 p 0).flood.everyone 1 i 3 ≡ false
    nearest zero less = refl
    nearest (suc zero) less = refl
    nearest (suc (suc i)) less = absurd (omega (arith, less))

pub asks : IsWithin s (slot_in s 0 5 p 1) 3 2 1
unfolding before_frame before_slot moment schedule_heard host_plan plan_round least_passing walks
asks = record { there = refl; distance = record { reached = refl; nearest = nearest }; few = omega arith }
  where
    nearest : (i : ℕ) → i < 2 → walks (is_linked s) (slot_in s 0 5 p 1).flood.everyone 3 i 1 ≡ false
    nearest zero less = refl
    nearest (suc zero) less = refl
    nearest (suc (suc i)) less = absurd (omega (arith, less))

-- in which it says the request that the host acknowledges
pub request : message_said ((slot_in s 0 5 p 1).window 3) ≡ Some (RequestOf (record { node = 3; boot = 1; stream = 0; interval = 4 }))
unfolding before_frame before_slot moment schedule_heard host_plan plan_round least_passing
request = refl
