-- Worked scenarios on the bus, with what their nodes are charged, computed from the definitions.
use Rattle.std.proofs.Common.{◌≡◌, ℕ, List, [], ◌∷◌, replicate, refl}
use Rattle.lwb_base.specs.Profile.{one, contended}
use Rattle.link_trace.specs.declared.lines.LinkLine.{LinkLine}
use Rattle.link_trace.specs.declared.lines.LoseLine.{LoseLine}
use Rattle.link_trace.specs.declared.lines.CaptureLine.{CaptureLine}
use Rattle.scenario_text.specs.ScenarioParts.{ScenarioParts}
use Rattle.scenario_text.specs.declared.lines.NodeLine.{NodeLine}
use Rattle.bus_rules.specs.declared.act.Act.{Act}
use Rattle.bus_rules.specs.declared.act.Act.TheVariants.{On, Off, Declare, Put}
use Rattle.scenario_text.specs.declared.script.ScriptLine.{ScriptLine}
use Rattle.bus_rules.specs.declared.delivery.Delivery.{Delivery}
use Rattle.bus_rules.specs.declared.delivery.DropLine.{DropLine}
use Rattle.bus_rules.specs.Streams.{schedule_heard}
use Rattle.bus_rules.specs.Granting.{plan_round}
use Rattle.bus_rules.specs.HostPlans.{host_plan}
use Rattle.bus_terms.specs.Flooding.{moment}
use Rattle.lwb_base.specs.Messages.{least_passing}
use Rattle.bus_terms.specs.Rounds.{before_slot}
use Rattle.bus_terms.specs.Bus.{before_frame, bus_deliveries, bus_drops, bus_cost, Cost}

abbrev pub node : ℕ → NodeLine
node v = record { node = v; offset = 0 }

abbrev pub link : ℕ → ℕ → LinkLine
link u v = record { from = u; to = v }

abbrev pub at : ℕ → ℕ → Act → ScriptLine
at f v a = record { frame = f; node = v; act = a }

abbrev delivery : ℕ → ℕ → ℕ → ℕ → ℕ → ℕ → ℕ → ℕ → ℕ → Delivery
delivery f rank slot v from boot stream seq byte =
    record { frame = f; rank = rank; slot = slot; node = v; from = from; boot = boot; stream = stream; seq = seq; payload = byte ∷ [] }

-- one stream, one packet
abbrev simple : ℕ → List LoseLine → List ScriptLine → ScenarioParts
simple frames lost more = record {
  profile = one;
  frames = frames;
  sends = 2;
  nodes = node 1 ∷ node 2 ∷ [];
  rates = [];
  hosts = 1 ∷ [];
  trace = record { links = link 1 2 ∷ link 2 1 ∷ []; losses = lost; cuts = []; captures = [] };
  script = at 0 1 On ∷ at 0 2 On ∷ at 0 2 (Declare 0 4) ∷ at 0 2 (Put 0 (0xaa ∷ [])) ∷ more;
}

no_round : bus_deliveries (simple 5 [] []) ≡ []
unfolding before_frame before_slot moment schedule_heard host_plan plan_round least_passing
no_round = refl

abbrev costs : ℕ → ℕ → ℕ → Cost
costs sent windows scanned = record { sent = sent; windows = windows; scanned = scanned }

one_packet : bus_deliveries (simple 12 [] []) ≡ delivery 9 0 1 1 2 1 0 0 0xaa ∷ []
unfolding before_frame before_slot moment schedule_heard host_plan plan_round least_passing
one_packet = refl

one_packet_costs : (bus_cost (simple 12 [] []) 1 ≡ costs 450560 9681408 5) × (bus_cost (simple 12 [] []) 2 ≡ costs 450560 9551872 6)
unfolding before_frame before_slot moment schedule_heard host_plan plan_round least_passing
one_packet_costs = (refl, refl)

-- two contenders, and two contention slots
abbrev three : List CaptureLine → ScenarioParts
three taken = record {
  profile = one;
  frames = 18;
  sends = 2;
  nodes = node 1 ∷ node 2 ∷ node 3 ∷ [];
  rates = [];
  hosts = 1 ∷ [];
  trace = record { links = link 1 2 ∷ link 1 3 ∷ link 2 1 ∷ link 3 1 ∷ []; losses = []; cuts = []; captures = taken };
  script = at 0 1 On ∷ at 0 2 On ∷ at 0 3 On ∷ at 0 2 (Declare 0 4) ∷ at 0 3 (Declare 0 4) ∷ at 0 2 (Put 0 (0xaa ∷ [])) ∷ at 0 3 (Put 0 (0xbb ∷ [])) ∷ [];
}

two_contenders : bus_deliveries (three []) ≡
    delivery 13 0 1 1 2 1 0 0 0xaa ∷ delivery 13 0 1 3 2 1 0 0 0xaa ∷ delivery 17 0 5 1 3 1 0 0 0xbb ∷ delivery 17 0 5 2 3 1 0 0 0xbb ∷ []
unfolding before_frame before_slot moment schedule_heard host_plan plan_round least_passing
two_contenders = refl

two_contenders_costs :
    (bus_cost (three []) 1 ≡ costs 929792 27789824 5)
    × (bus_cost (three []) 2 ≡ costs 960512 27973632 6)
    × (bus_cost (three []) 3 ≡ costs 960512 27973632 6)
unfolding before_frame before_slot moment schedule_heard host_plan plan_round least_passing
two_contenders_costs = (refl, refl, refl)

-- the host receives the request of node 2 at once
abbrev captured : ScenarioParts
captured = three (record { frame = 5; slot = 1; step = 0; at = 1; from = 2 } ∷ [])

two_contenders_captured : bus_deliveries captured ≡
    delivery 9 0 1 1 2 1 0 0 0xaa ∷ delivery 9 0 1 3 2 1 0 0 0xaa ∷ delivery 17 0 5 1 3 1 0 0 0xbb ∷ delivery 17 0 5 2 3 1 0 0 0xbb ∷ []
unfolding before_frame before_slot moment schedule_heard host_plan plan_round least_passing
two_contenders_captured = refl

two_contenders_captured_costs :
    (bus_cost captured 1 ≡ costs 946176 36198400 5)
    × (bus_cost captured 2 ≡ costs 946176 36390400 6)
    × (bus_cost captured 3 ≡ costs 915456 38219648 6)
unfolding before_frame before_slot moment schedule_heard host_plan plan_round least_passing
two_contenders_captured_costs = (refl, refl, refl)

-- opening and closing missed
abbrev lost : ℕ → LoseLine
lost slot = record { frame = 9; slot = slot; step = 0; from = 1; to = 2 }

abbrev missed : ScenarioParts
missed = simple 14 (lost 0 ∷ lost 6 ∷ []) (at 9 2 (Declare 1 4) ∷ at 9 2 (Put 1 (0xcc ∷ [])) ∷ at 10 2 (Put 0 (0xbb ∷ [])) ∷ [])

opening_and_closing_missed : bus_deliveries missed ≡ delivery 9 0 1 1 2 1 0 0 0xaa ∷ delivery 13 0 1 1 2 1 0 1 0xbb ∷ []
unfolding before_frame before_slot moment schedule_heard host_plan plan_round least_passing
opening_and_closing_missed = refl

opening_and_closing_missed_costs : (bus_cost missed 1 ≡ costs 667648 20631424 5) × (bus_cost missed 2 ≡ costs 585728 20149120 10)
unfolding before_frame before_slot moment schedule_heard host_plan plan_round least_passing
opening_and_closing_missed_costs = (refl, refl)

abbrev restarted : ScenarioParts
restarted = simple 16 [] (at 6 1 Off ∷ at 6 1 On ∷ at 10 2 (Put 0 (0xbb ∷ [])) ∷ [])

host_restarts : bus_deliveries restarted ≡ delivery 15 0 1 1 2 1 0 1 0xbb ∷ []
unfolding before_frame before_slot moment schedule_heard host_plan plan_round least_passing
host_restarts = refl

host_restarts_costs : (bus_cost restarted 1 ≡ costs 667648 10315776 10) × (bus_cost restarted 2 ≡ costs 702464 24669312 8)
unfolding before_frame before_slot moment schedule_heard host_plan plan_round least_passing
host_restarts_costs = (refl, refl)

abbrev contention : ScenarioParts
contention = record (three []) {
  profile = contended 2;
  frames = 12;
  script = at 0 1 On ∷ at 0 2 On ∷ at 0 3 On ∷ at 0 2 (Declare 0 5) ∷ at 0 3 (Declare 0 5) ∷ at 0 2 (Put 0 (0xaa ∷ [])) ∷ at 0 3 (Put 0 (0xbb ∷ [])) ∷ [];
}

two_contention_slots : bus_deliveries contention ≡
    delivery 9 0 1 1 2 1 0 0 0xaa ∷ delivery 9 0 1 3 2 1 0 0 0xaa ∷ delivery 9 0 5 1 3 1 0 0 0xbb ∷ delivery 9 0 5 2 3 1 0 0 0xbb ∷ []
unfolding before_frame before_slot moment schedule_heard host_plan plan_round least_passing
two_contention_slots = refl

two_contention_slots_costs :
    (bus_cost contention 1 ≡ costs 634880 30385152 5)
    × (bus_cost contention 2 ≡ costs 634880 30396928 6)
    × (bus_cost contention 3 ≡ costs 634880 30396928 6)
unfolding before_frame before_slot moment schedule_heard host_plan plan_round least_passing
two_contention_slots_costs = (refl, refl, refl)

-- backup host takes over
abbrev pub backup : ScenarioParts
backup = record {
  profile = one;
  frames = 32;
  sends = 2;
  nodes = node 1 ∷ node 2 ∷ node 3 ∷ [];
  rates = [];
  hosts = 1 ∷ 2 ∷ [];
  trace = record { links = link 1 2 ∷ link 1 3 ∷ link 2 1 ∷ link 2 3 ∷ link 3 1 ∷ link 3 2 ∷ []; losses = []; cuts = []; captures = [] };
  script = at 0 1 On ∷ at 0 2 On ∷ at 0 3 On ∷ at 0 3 (Declare 0 4) ∷ at 0 3 (Put 0 (0xaa ∷ [])) ∷ at 6 1 Off ∷ at 20 3 (Put 0 (0xbb ∷ [])) ∷ [];
}

backup_host_takes_over : bus_deliveries backup ≡ delivery 9 0 1 2 3 1 0 0 0xaa ∷ delivery 31 1 1 2 3 1 0 1 0xbb ∷ []
unfolding before_frame before_slot moment schedule_heard host_plan plan_round least_passing
backup_host_takes_over = refl

backup_host_takes_over_costs :
    (bus_cost backup 1 ≡ costs 217088 634368 5)
    × (bus_cost backup 2 ≡ costs 737280 22985984 23)
    × (bus_cost backup 3 ≡ costs 737280 22766336 24)
unfolding before_frame before_slot moment schedule_heard host_plan plan_round least_passing
backup_host_takes_over_costs = (refl, refl, refl)

-- full queue
full : bus_drops (simple 5 [] (replicate 16 (at 0 2 (Put 0 (0xaa ∷ []))))) ≡ record { frame = 0; node = 2; stream = 0 } ∷ []
unfolding before_frame before_slot moment schedule_heard host_plan plan_round least_passing
full = refl

-- packets are lost at a node that is off, and where their stream was not declared since the node was powered on
abbrev put_at : ℕ → ℕ → ScriptLine
put_at f v = at f v (Put 0 (0xaa ∷ []))

abbrev lost_at : ℕ → ℕ → DropLine
lost_at f v = record { frame = f; node = v; stream = 0 }

abbrev some_lost : ScenarioParts
some_lost = record (simple 4 [] []) {
  script =
      put_at 0 2 ∷ at 0 1 On ∷ at 0 2 On ∷ put_at 0 2 ∷ at 0 2 (Declare 0 4) ∷ put_at 0 2 ∷ put_at 0 1
      ∷ put_at 1 2 ∷ at 2 2 Off ∷ put_at 2 2 ∷ at 3 2 On ∷ put_at 3 2 ∷ at 3 2 (Declare 0 4) ∷ put_at 3 2 ∷ [];
}

rejected : bus_drops some_lost ≡ lost_at 0 2 ∷ lost_at 0 2 ∷ lost_at 0 1 ∷ lost_at 2 2 ∷ lost_at 3 2 ∷ []
unfolding before_frame before_slot moment schedule_heard host_plan plan_round least_passing
rejected = refl

-- the second profile, also with its longest payload
abbrev second : List ℕ → ScenarioParts
second payload = record (simple 12 [] []) {
  profile = contended 0;
  script = at 0 1 On ∷ at 0 2 On ∷ at 0 2 (Declare 0 5) ∷ at 0 2 (Put 0 payload) ∷ [];
}

second_profile : bus_deliveries (second (0xaa ∷ [])) ≡ delivery 9 0 1 1 2 1 0 0 0xaa ∷ []
unfolding before_frame before_slot moment schedule_heard host_plan plan_round least_passing
second_profile = refl

second_profile_costs : (bus_cost (second (0xaa ∷ [])) 1 ≡ costs 450560 15569408 5) × (bus_cost (second (0xaa ∷ [])) 2 ≡ costs 450560 15439872 6)
unfolding before_frame before_slot moment schedule_heard host_plan plan_round least_passing
second_profile_costs = (refl, refl)

longest_payload : bus_deliveries (second (replicate 96 0xaa)) ≡ record (delivery 9 0 1 1 2 1 0 0 0) { payload = replicate 96 0xaa } ∷ []
unfolding before_frame before_slot moment schedule_heard host_plan plan_round least_passing
longest_payload = refl
