-- Contenders in worked networks, computed from the definitions; and where a premise is taken away, one of them is received.
use Rattle.std.proofs.Common.{◌≡◌, ◌==◌, ◌||◌, ◌&&◌, ℕ, [], ◌∷◌, Bool, Option, Some, None, if◌then◌else◌, refl}
use Rattle.law_service.proofs.Words.{contended, least_passing, ScenarioParts, On, Declare, Put, Delivery, plan_round, host_plan, Streams, cleared, declared}
use Rattle.law_service.proofs.Words.{after_put, after_contention, schedule_heard, before_frame, bus_deliveries, Setting, moment, accepted, before_slot, node}
use Rattle.law_service.proofs.Words.{link, at, own_number}

-- nodes 7 and 23 have the fourth of four contention slots, and of three the second and the third
four_slots : (own_number 7 0 4 ≡ 4) × (own_number 23 0 4 ≡ 4) × (own_number 7 3 4 ≡ 3) × (own_number 23 3 4 ≡ 3)
four_slots = (refl, refl, refl, refl)

three_slots : (own_number 7 0 3 ≡ 2) × (own_number 23 0 3 ≡ 3) × (own_number 7 3 3 ≡ 2) × (own_number 23 3 3 ≡ 3)
three_slots = (refl, refl, refl, refl)

-- a host with two neighbours, which have a packet each
abbrev pub star : ℕ → ℕ → ℕ → ℕ → ScenarioParts
star slots frames u v = record {
  profile = contended slots;
  frames = frames;
  sends = 2;
  nodes = node 1 ∷ node u ∷ node v ∷ [];
  rates = [];
  hosts = 1 ∷ [];
  trace = record { links = link 1 u ∷ link 1 v ∷ link u 1 ∷ link v 1 ∷ []; losses = []; cuts = []; captures = [] };
  script =
      at 0 1 On ∷ at 0 u On ∷ at 0 v On ∷ at 0 u (Declare 0 5) ∷ at 0 v (Declare 0 5) ∷ at 0 u (Put 0 (0xaa ∷ []))
      ∷ at 0 v (Put 0 (0xbb ∷ [])) ∷ [];
}

abbrev delivery : ℕ → ℕ → ℕ → ℕ → ℕ → Delivery
delivery f slot v from byte =
    record { frame = f; rank = 0; slot = slot; node = v; from = from; boot = 1; stream = 0; seq = 0; payload = byte ∷ [] }

contend_for_ever : bus_deliveries (star 4 40 7 23) ≡ []
unfolding before_frame before_slot moment schedule_heard host_plan plan_round least_passing
contend_for_ever = refl

part_with_three_slots : bus_deliveries (star 3 12 7 23) ≡
    delivery 9 1 1 7 0xaa ∷ delivery 9 1 23 7 0xaa ∷ delivery 9 5 1 23 0xbb ∷ delivery 9 5 7 23 0xbb ∷ []
unfolding before_frame before_slot moment schedule_heard host_plan plan_round least_passing
part_with_three_slots = refl

-- after a first try nodes 7 and 23 back off for one slot, and node 8, whose id is not equal to theirs modulo 16, for none
abbrev asking : Streams
asking = after_put 0 (0xaa ∷ []) (declared 0 5 cleared)

abbrev skips_of : Streams → ℕ
skips_of s = s.skips

other_backoff : (skips_of (after_contention 7 asking) ≡ 1) × (skips_of (after_contention 23 asking) ≡ 1) × (skips_of (after_contention 8 asking) ≡ 0)
other_backoff = (refl, refl, refl)

-- the flood of two requests, of nodes 7 and 23, to node 1: by the links that pass, and the capture lines
abbrev flood : (ℕ → ℕ → ℕ → Bool) → (ℕ → ℕ → Option ℕ) → Setting
flood passes captured = record {
  limit = 2;
  passes = passes;
  captured = captured;
  initiators = 7 ∷ 23 ∷ [];
  everyone = 1 ∷ 4 ∷ 7 ∷ 23 ∷ [];
}

abbrev between : ℕ → ℕ → ℕ → ℕ → Bool
between a b u v = ((u == a) && (v == b)) || ((u == b) && (v == a))

-- both have node 1 as their neighbour, and no other
abbrev both_near : ℕ → ℕ → ℕ → Bool
both_near k u v = between 1 7 u v || between 1 23 u v

neither_is_heard : accepted (flood both_near (λ k v. None)) 1 ≡ None
unfolding moment
neither_is_heard = refl

one_is_captured : accepted (flood both_near (λ k v. if (k == 0) && (v == 1) then Some 7 else None)) 1 ≡ Some (7, 0)
unfolding moment
one_is_captured = refl

one_link_is_lost : accepted (flood (λ k u v. both_near k u v && ((k == 1) || ((u == 7) || (v == 7)))) (λ k v. None)) 1 ≡ Some (7, 0)
unfolding moment
one_link_is_lost = refl

-- node 7 has a neighbour more, node 4, which relays its request, so that node 7 sends it again in step 2
other_neighbours : accepted (flood (λ k u v. both_near k u v || between 4 7 u v) (λ k v. None)) 1 ≡ Some (7, 2)
unfolding moment
other_neighbours = refl
