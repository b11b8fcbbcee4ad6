-- Requests in worked networks, computed from the definitions; and where a premise is taken away, none is acknowledged.
use Rattle.std.proofs.Common.{◌≡◌, ℕ, [], ◌∷◌, List, ◌++◌, true, false, map, refl}
use Rattle.law_service.proofs.Words.{range_with_len, Ask, least_passing, ScenarioParts, plan_round, host_plan, answers_to, State, StateOff, StateOn}
use Rattle.law_service.proofs.Words.{schedule_heard, TableEntry, Table, is_full, moment, before_slot, rounds, before_frame, state_at, link}
use Rattle.law_service.proofs.WorkedReach.{line, three}

-- what the plan of a node acknowledges
abbrev acks_of : State → List Ask
acks_of (StateOff boots) = []
acks_of (StateOn c) = c.plan.acks

-- what node 1 acknowledges at the closing of frame 5
abbrev acknowledged : ScenarioParts → List Ask
acknowledged s = acks_of (rounds s 5 (state_at s 5) 1)

abbrev ask_of : ℕ → Ask
ask_of v = record { node = v; boot = 1; stream = 0; interval = 4 }

a_lone_request : acknowledged (three []) ≡ ask_of 3 ∷ []
unfolding before_frame before_slot moment schedule_heard host_plan plan_round least_passing
a_lone_request = refl

-- the request loses its first hop, in the contention slot
a_request_over_a_lost_link : acknowledged (three (record { frame = 5; slot = 1; step = 0; from = 3; to = 2 } ∷ [])) ≡ []
unfolding before_frame before_slot moment schedule_heard host_plan plan_round least_passing
a_request_over_a_lost_link = refl

-- a line in which the last node receives from the host over one link, but is this many hops off on the way back
abbrev one_way : List ℕ → ℕ → ScenarioParts
one_way nodes last = (let s : ScenarioParts = line nodes 1 last [] in record s { trace = record s.trace { links = s.trace.links ++ link 1 last ∷ [] } })

a_request_twelve_hops_off : acknowledged (one_way (1 ∷ 2 ∷ 3 ∷ 4 ∷ 5 ∷ 6 ∷ 7 ∷ 8 ∷ 9 ∷ 10 ∷ 11 ∷ 12 ∷ 13 ∷ []) 13) ≡ ask_of 13 ∷ []
unfolding before_frame before_slot moment schedule_heard host_plan plan_round least_passing
a_request_twelve_hops_off = refl

a_request_thirteen_hops_off : acknowledged (one_way (1 ∷ 2 ∷ 3 ∷ 4 ∷ 5 ∷ 6 ∷ 7 ∷ 8 ∷ 9 ∷ 10 ∷ 11 ∷ 12 ∷ 13 ∷ 14 ∷ []) 14) ≡ []
unfolding before_frame before_slot moment schedule_heard host_plan plan_round least_passing
a_request_thirteen_hops_off = refl

-- a table of this many streams
abbrev entry_of : ℕ → TableEntry
entry_of c = record { code = c; boot = 1; interval = 4; accepted = 0; granted = 0; unheard = 0 }

abbrev table_of : ℕ → Table
table_of n = record { entries = map entry_of (range_with_len 40 n); place = 0 }

the_last_place_of_a_table : (is_full (ask_of 3) (table_of 31) ≡ false) × ((answers_to 5 (ask_of 3 ∷ []) (table_of 31)).acks ≡ ask_of 3 ∷ [])
the_last_place_of_a_table = (refl, refl)

a_full_table : (is_full (ask_of 3) (table_of 32) ≡ true) × ((answers_to 5 (ask_of 3 ∷ []) (table_of 32)).acks ≡ [])
a_full_table = (refl, refl)
