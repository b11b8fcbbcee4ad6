-- Reach and deliveries in worked networks, computed from the definitions; and where a premise is taken away, nothing comes.
use Rattle.std.proofs.Common.{◌≡◌, ℕ, List, [], ◌∷◌, Bool, true, false, ◌++◌, refl, map}
use Rattle.link_trace.specs.declared.lines.LinkLine.{LinkLine}
use Rattle.law_service.proofs.Words.{one, least_passing, LoseLine, ScenarioParts, On, Declare, Put, ScriptLine, Delivery, schedule_heard, plan_round, host_plan}
use Rattle.law_service.proofs.Words.{walks, ids, moment, before_slot, round_deliveries, before_frame, state_at, node, link, at, is_linked}

-- links both ways between each node and the next
abbrev chain : List ℕ → List LinkLine
chain [] = []
chain (u ∷ []) = []
chain (u ∷ v ∷ vs) = link u v ∷ link v u ∷ chain (v ∷ vs)

abbrev turned_on : ℕ → ScriptLine
turned_on v = at 0 v On

-- nodes in a line, of which one hosts and one has a packet
abbrev pub line : List ℕ → ℕ → ℕ → List LoseLine → ScenarioParts
line nodes host source lost = record {
  profile = one;
  frames = 12;
  sends = 1;
  nodes = map node nodes;
  rates = [];
  hosts = host ∷ [];
  trace = record { links = chain nodes; losses = lost; cuts = []; captures = [] };
  script = map turned_on nodes ++ at 0 source (Declare 0 4) ∷ at 0 source (Put 0 (0xaa ∷ [])) ∷ [];
}

abbrev pub three : List LoseLine → ScenarioParts
three lost = line (1 ∷ 2 ∷ 3 ∷ []) 1 3 lost

abbrev fourteen : ScenarioParts
fourteen = line (1 ∷ 2 ∷ 3 ∷ 4 ∷ 5 ∷ 6 ∷ 7 ∷ 8 ∷ 9 ∷ 10 ∷ 11 ∷ 12 ∷ 13 ∷ 14 ∷ []) 7 14 []

-- whether a walk of this many links leads from one node to another
abbrev walked : ScenarioParts → ℕ → ℕ → ℕ → Bool
walked s u hops v = walks (is_linked s) (ids s.nodes) u hops v

two_hops_in_a_line_of_three :
    (walked (three []) 1 0 3 ≡ false) × (walked (three []) 1 1 3 ≡ false) × (walked (three []) 1 2 3 ≡ true)
unfolding walks
two_hops_in_a_line_of_three = (refl, refl, refl)

thirteen_hops_in_a_line_of_fourteen :
    (walked fourteen 1 11 13 ≡ false) × (walked fourteen 1 12 13 ≡ true) × (walked fourteen 1 12 14 ≡ false) × (walked fourteen 1 13 14 ≡ true)
unfolding walks
thirteen_hops_in_a_line_of_fourteen = (refl, refl, refl, refl)

abbrev pub received : ℕ → ℕ → Delivery
received source v = record { frame = 9; rank = 0; slot = 1; node = v; from = source; boot = 1; stream = 0; seq = 0; payload = 0xaa ∷ [] }

-- what the round of frame 9 delivers
abbrev in_frame_9 : ScenarioParts → List Delivery
in_frame_9 s = round_deliveries s 0 9 (state_at s 9)

both_others_deliver : in_frame_9 (three []) ≡ received 3 1 ∷ received 3 2 ∷ []
unfolding before_frame before_slot moment schedule_heard host_plan plan_round least_passing
both_others_deliver = refl

-- the first hop is lost in the step in which node 3 sends
nobody_delivers_over_a_lost_link : in_frame_9 (three (record { frame = 9; slot = 1; step = 0; from = 3; to = 2 } ∷ [])) ≡ []
unfolding before_frame before_slot moment schedule_heard host_plan plan_round least_passing
nobody_delivers_over_a_lost_link = refl

-- node 14 is the source: node 2 is 12 hops off and node 1 is 13
nobody_delivers_thirteen_hops_off : in_frame_9 fourteen ≡ map (received 14) (2 ∷ 3 ∷ 4 ∷ 5 ∷ 6 ∷ 7 ∷ 8 ∷ 9 ∷ 10 ∷ 11 ∷ 12 ∷ 13 ∷ [])
unfolding before_frame before_slot moment schedule_heard host_plan plan_round least_passing
nobody_delivers_thirteen_hops_off = refl
