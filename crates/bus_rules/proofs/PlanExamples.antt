-- Worked examples of what a host plans, and of what a node makes of it.
use Rattle.std.proofs.Common.{◌≡◌, ℕ, [], ◌∷◌, refl, Some, None}
use Rattle.lwb_base.specs.Profile.{one, contended}
use Rattle.lwb_base.specs.Messages.{Ask, Plan}
use Rattle.bus_rules.specs.Streams.{Streams, cleared, declared, after_put, requested, after_contention, schedule_heard, stream_at}
use Rattle.bus_rules.specs.Tables.{no_table}
use Rattle.bus_rules.specs.Granting.{plan_round}
use Rattle.bus_rules.specs.HostPlans.{host_plan}

-- a request of stream 0
asks : ℕ → ℕ → Ask
asks node interval = record { node = node; boot = 1; stream = 0; interval = interval }

-- the first host accepts a request in frame 5, in either profile
one_request : ((host_plan one 1 1 0 5 (asks 2 4 ∷ []) no_table cleared).gap ≡ 4)
    × ((host_plan one 1 1 0 5 (asks 2 4 ∷ []) no_table cleared).plan
    ≡ record { rank = 0; boot = 1; contend = 0; acks = asks 2 4 ∷ []; owners = 8 ∷ 8 ∷ 8 ∷ 8 ∷ [] })
unfolding asks host_plan plan_round
one_request = (refl, refl)

-- two of them in two contention slots, in the order of the slots or not
two_requests : (host_plan (contended 2) 1 1 0 5 (asks 2 5 ∷ asks 3 5 ∷ []) no_table cleared).plan
    ≡ record { rank = 0; boot = 1; contend = 2; acks = asks 2 5 ∷ asks 3 5 ∷ []; owners = 8 ∷ 8 ∷ 8 ∷ 8 ∷ 12 ∷ 12 ∷ 12 ∷ 12 ∷ [] }
unfolding asks host_plan plan_round
two_requests = refl

other_way : (host_plan (contended 2) 1 1 0 5 (asks 3 5 ∷ asks 2 5 ∷ []) no_table cleared).plan
    ≡ (host_plan (contended 2) 1 1 0 5 (asks 2 5 ∷ asks 3 5 ∷ []) no_table cleared).plan
unfolding asks host_plan plan_round
other_way = refl

-- streams of which this one is declared with interval 4, and has a packet
waits_at : ℕ → Streams
waits_at stream = after_put stream [] (declared stream 4 cleared)

-- a host's own stream 1: put to the table now, and agreed at the next plan
own_request : ((host_plan one 1 1 0 5 [] no_table (waits_at 1)).plan.owners ≡ 5 ∷ 5 ∷ 5 ∷ 5 ∷ [])
    × ((stream_at (host_plan one 1 1 0 5 [] no_table (waits_at 1)).streams 1).agreed ≡ 0)
    × ((stream_at (host_plan one 1 1 0 9 [] (host_plan one 1 1 0 5 [] no_table (waits_at 1)).table (waits_at 1)).streams 1).agreed ≡ 4)
unfolding waits_at host_plan plan_round
own_request = (refl, refl, refl)

-- nodes 2 and 3 contend in frame 5. Node 2 skips none, node 3 skips one
contention : (requested (waits_at 0) ≡ Some 0)
    × ((after_contention 2 (waits_at 0)).tries ≡ 1) × ((after_contention 2 (waits_at 0)).skips ≡ 0)
    × ((after_contention 3 (waits_at 0)).skips ≡ 1) × (requested (after_contention 3 (waits_at 0)) ≡ None)
    × (requested (after_contention 3 (after_contention 3 (waits_at 0))) ≡ Some 0)
unfolding waits_at
contention = (refl, refl, refl, refl, refl, refl)

-- node 3 is acknowledged in frame 9, and then agrees with its requested interval; an acknowledgement for another boot is not its own
closing : ℕ → Plan
closing boot = record { rank = 0; boot = 1; contend = 0; acks = record { node = 3; boot = boot; stream = 0; interval = 4 } ∷ []; owners = 12 ∷ [] }

granted_three : ((stream_at (schedule_heard 3 1 9 (record { plan = closing 1; gap = 4 }) (after_contention 3 (waits_at 0))) 0).agreed ≡ 4)
    × ((schedule_heard 3 1 9 (record { plan = closing 1; gap = 4 }) (after_contention 3 (waits_at 0))).skips ≡ 0)
    × (requested (schedule_heard 3 1 9 (record { plan = closing 1; gap = 4 }) (after_contention 3 (waits_at 0))) ≡ None)
    × ((stream_at (schedule_heard 3 2 9 (record { plan = closing 1; gap = 4 }) (waits_at 0)) 0).agreed ≡ 0)
    × ((stream_at (schedule_heard 3 2 9 (record { plan = closing 1; gap = 4 }) (waits_at 0)) 0).last ≡ 9)
unfolding waits_at closing schedule_heard
granted_three = (refl, refl, refl, refl, refl)
