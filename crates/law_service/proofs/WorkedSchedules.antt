-- Who goes by the schedules of the first round in worked networks, computed from the definitions.
use Rattle.std.proofs.Common.{◌≡◌, ℕ, [], ◌∷◌, List, Bool, true, false, Some, None, Option, refl}
use Rattle.law_service.proofs.Words.{one, least_passing, LoseLine, ScenarioParts, empty_plan, schedule_heard, plan_round, host_plan, hosts_in, holds_in, moment}
use Rattle.law_service.proofs.Words.{accepted, before_slot, rounds, is_on_and, before_frame, state_at, slot_in}
use Rattle.law_service.proofs.WorkedReach.{line, three}

-- node 1 hosts its first round in frame 5
abbrev fourteen : ScenarioParts
fourteen = line (1 ∷ 2 ∷ 3 ∷ 4 ∷ 5 ∷ 6 ∷ 7 ∷ 8 ∷ 9 ∷ 10 ∷ 11 ∷ 12 ∷ 13 ∷ 14 ∷ []) 1 14 []

-- what a node accepts in its opening slot: whose schedule, and in which step
abbrev opening_at : ScenarioParts → ℕ → Option (ℕ × ℕ)
opening_at s v = accepted (slot_in s 0 5 (empty_plan one 0 1) 0).flood v

twelve_hops_accept_the_opening : (opening_at fourteen 2 ≡ Some (1, 0)) × (opening_at fourteen 13 ≡ Some (1, 11)) × (opening_at fourteen 14 ≡ None)
unfolding before_frame before_slot moment schedule_heard host_plan plan_round least_passing
twelve_hops_accept_the_opening = (refl, refl, refl)

-- whether a node holds the round of frame 9 after that of frame 5
abbrev holds : ScenarioParts → ℕ → Bool
holds s v = is_on_and (λ c. holds_in 0 9 c.tune) (rounds s 5 (state_at s 5) v)

abbrev hosts : ScenarioParts → ℕ → Bool
hosts s v = is_on_and (λ c. hosts_in 0 9 c.tune) (rounds s 5 (state_at s 5) v)

twelve_hops_hold_the_next_round : (hosts fourteen 1 ≡ true) × (holds fourteen 2 ≡ true) × (holds fourteen 13 ≡ true) × (holds fourteen 14 ≡ false)
unfolding before_frame before_slot moment schedule_heard host_plan plan_round least_passing
twelve_hops_hold_the_next_round = (refl, refl, refl, refl)

-- a link that one slot loses from the host
abbrev lost : ℕ → List LoseLine
lost slot = record { frame = 5; slot = slot; step = 0; from = 1; to = 2 } ∷ []

a_lost_link_leaves_the_opening_unheard : (opening_at (three []) 3 ≡ Some (1, 1)) × (opening_at (three (lost 0)) 3 ≡ None)
unfolding before_frame before_slot moment schedule_heard host_plan plan_round least_passing
a_lost_link_leaves_the_opening_unheard = (refl, refl)

a_lost_link_leaves_the_closing_unheard : (holds (three []) 3 ≡ true) × (holds (three (lost 2)) 3 ≡ false)
unfolding before_frame before_slot moment schedule_heard host_plan plan_round least_passing
a_lost_link_leaves_the_closing_unheard = (refl, refl)
