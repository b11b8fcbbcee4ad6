-- Worked scenarios with what became of their packets, computed from the definitions.
use Rattle.std.proofs.Common.{◌≡◌, ℕ, List, [], ◌∷◌, ◌++◌, Some, None, true, false, replicate, refl, map}
use Rattle.lwb_base.specs.Profile.{one}
use Rattle.lwb_base.specs.Messages.{least_passing}
use Rattle.link_trace.specs.declared.lines.LoseLine.{LoseLine}
use Rattle.scenario_text.specs.ScenarioParts.{ScenarioParts}
use Rattle.scenario_text.specs.declared.script.ScriptLine.{ScriptLine}
use Rattle.bus_rules.specs.declared.act.Act.TheVariants.{On, Off, Declare, Leave, Put}
use Rattle.bus_rules.specs.Streams.{schedule_heard}
use Rattle.bus_rules.specs.Granting.{plan_round}
use Rattle.bus_rules.specs.HostPlans.{host_plan}
use Rattle.bus_terms.specs.Bus.{before_frame}
use Rattle.bus_terms.specs.Flooding.{moment}
use Rattle.bus_terms.specs.Rounds.{before_slot}
use Rattle.bus_terms.specs.Fates.{bus_fates, host_latency_counts, hosted_counts, latency_counts, stream_counts}
use Rattle.bus_terms.specs.declared.packets.Fate.{Fate}
use Rattle.bus_terms.specs.declared.packets.Fate.TheVariants.{Dropped, Waiting, Cleared, Sent}
use Rattle.bus_terms.specs.declared.packets.HostedCount.{HostedCount}
use Rattle.bus_terms.specs.declared.packets.LatencyCount.{LatencyCount}
use Rattle.bus_terms.specs.declared.packets.PutFate.{PutFate}
use Rattle.bus_terms.specs.declared.packets.StreamCounts.{StreamCounts}
use Rattle.bus_terms.proofs.WorkedBuses.{node, link, at}

-- host 1 and member 2, and nothing is lost
abbrev pair : ℕ → List ScriptLine → ScenarioParts
pair frames script = record {
  profile = one;
  frames = frames;
  sends = 2;
  nodes = node 1 ∷ node 2 ∷ [];
  rates = [];
  hosts = 1 ∷ [];
  trace = record { links = link 1 2 ∷ link 2 1 ∷ []; losses = []; cuts = []; captures = [] };
  script = at 0 1 On ∷ at 0 2 On ∷ script;
}

abbrev asked : ℕ → ℕ → ScriptLine
asked f v = at f v (Declare 0 4)

abbrev given : ℕ → ℕ → ScriptLine
given f v = at f v (Put 0 (0xaa ∷ []))

-- in stream 0
abbrev queued : ℕ → ℕ → ℕ → ℕ → Fate → PutFate
queued f v boot seq fate = record {
  put = record { frame = f; node = v; stream = 0; packet = Some (record { node = v; boot = boot; stream = 0; seq = seq }) };
  fate = fate;
}

abbrev dropped : ℕ → ℕ → PutFate
dropped f v = record { put = record { frame = f; node = v; stream = 0; packet = None }; fate = Dropped }

-- its slot is the first of frame 9
it_is_sent : bus_fates (pair 12 (asked 0 2 ∷ given 0 2 ∷ [])) ≡ queued 0 2 1 0 (Sent 9 0 1 1 true) ∷ []
unfolding before_frame before_slot moment schedule_heard host_plan plan_round least_passing
it_is_sent = refl

it_waits_at_the_end : bus_fates (pair 9 (asked 0 2 ∷ given 0 2 ∷ [])) ≡ queued 0 2 1 0 Waiting ∷ []
unfolding before_frame before_slot moment schedule_heard host_plan plan_round least_passing
it_waits_at_the_end = refl

it_is_cleared_by_leaving : bus_fates (pair 12 (asked 0 2 ∷ given 0 2 ∷ at 3 2 (Leave 0) ∷ [])) ≡ queued 0 2 1 0 (Cleared 3) ∷ []
unfolding before_frame before_slot moment schedule_heard host_plan plan_round least_passing
it_is_cleared_by_leaving = refl

-- leaving another stream clears nothing, nor does another node's
others_leave : bus_fates (pair 12 (asked 0 2 ∷ given 0 2 ∷ at 3 1 (Leave 0) ∷ at 3 2 (Leave 1) ∷ [])) ≡ queued 0 2 1 0 (Sent 9 0 1 1 true) ∷ []
unfolding before_frame before_slot moment schedule_heard host_plan plan_round least_passing
others_leave = refl

-- the power of a host fails in frame 2: what waits in its own stream is lost with it
a_host_restarts : bus_fates (pair 12 (asked 0 1 ∷ given 0 1 ∷ at 2 1 Off ∷ at 3 1 On ∷ given 3 1 ∷ [])) ≡ queued 0 1 1 0 (Cleared 2) ∷ dropped 3 1 ∷ []
unfolding before_frame before_slot moment schedule_heard host_plan plan_round least_passing
a_host_restarts = refl

a_node_is_off : bus_fates (pair 2 (asked 0 2 ∷ at 1 2 Off ∷ given 1 2 ∷ [])) ≡ dropped 1 2 ∷ []
unfolding before_frame before_slot moment schedule_heard host_plan plan_round least_passing
a_node_is_off = refl

-- 16 packets fill the queue
the_queue_is_full : bus_fates (pair 1 (asked 0 2 ∷ replicate 17 (given 0 2))) ≡
    queued 0 2 1 0 Waiting ∷ queued 0 2 1 1 Waiting ∷ queued 0 2 1 2 Waiting ∷ queued 0 2 1 3 Waiting ∷ queued 0 2 1 4 Waiting ∷ queued 0 2 1 5 Waiting
    ∷ queued 0 2 1 6 Waiting ∷ queued 0 2 1 7 Waiting ∷ queued 0 2 1 8 Waiting ∷ queued 0 2 1 9 Waiting ∷ queued 0 2 1 10 Waiting ∷ queued 0 2 1 11 Waiting
    ∷ queued 0 2 1 12 Waiting ∷ queued 0 2 1 13 Waiting ∷ queued 0 2 1 14 Waiting ∷ queued 0 2 1 15 Waiting ∷ dropped 0 2 ∷ []
unfolding before_frame before_slot moment schedule_heard host_plan plan_round least_passing
the_queue_is_full = refl

-- both boots number from 0 on: the second packet is another, though its numbers are those of the first
abbrev two_boots : ScenarioParts
two_boots = pair 13 (asked 0 2 ∷ given 0 2 ∷ at 10 2 Off ∷ at 11 2 On ∷ given 11 2 ∷ asked 11 2 ∷ given 11 2 ∷ [])

each_boot_has_its_packets : bus_fates two_boots ≡ queued 0 2 1 0 (Sent 9 0 1 1 true) ∷ dropped 11 2 ∷ queued 11 2 2 0 Waiting ∷ []
unfolding before_frame before_slot moment schedule_heard host_plan plan_round least_passing
each_boot_has_its_packets = refl

-- the latency is from the put on
late_by_nine_frames : latency_counts two_boots ≡ record { latency = record { node = 2; stream = 0; at = 1; frames = 9 }; count = 1 } ∷ []
unfolding before_frame before_slot moment schedule_heard host_plan plan_round least_passing
late_by_nine_frames = refl

counts_by_stream : stream_counts two_boots ≡ record { node = 2; stream = 0; put = 3; dropped = 1; sent = 1; waiting = 1; cleared = 0 } ∷ []
unfolding before_frame before_slot moment schedule_heard host_plan plan_round least_passing
counts_by_stream = refl

sent_to_the_host : hosted_counts two_boots ≡ record { node = 2; stream = 0; at = 1; count = 1 } ∷ []
unfolding before_frame before_slot moment schedule_heard host_plan plan_round least_passing
sent_to_the_host = refl

-- three nodes, each in reach of both others, by these hosts
abbrev all_linked : ℕ → List ℕ → List LoseLine → List ScriptLine → ScenarioParts
all_linked frames hosts lost script = record {
  profile = one;
  frames = frames;
  sends = 2;
  nodes = node 1 ∷ node 2 ∷ node 3 ∷ [];
  rates = [];
  hosts = hosts;
  trace = record {
    links = link 1 2 ∷ link 1 3 ∷ link 2 1 ∷ link 2 3 ∷ link 3 1 ∷ link 3 2 ∷ [];
    losses = lost;
    cuts = [];
    captures = [];
  };
  script = at 0 1 On ∷ at 0 2 On ∷ at 0 3 On ∷ script;
}

-- in the slot of the packet
abbrev lost_in_step : ℕ → ℕ → ℕ → LoseLine
lost_in_step k u v = record { frame = 9; slot = 1; step = k; from = u; to = v }

-- host 1 receives nothing in the slot of node 3, and node 2 does
abbrev host_misses : ScenarioParts
host_misses = all_linked 10 (1 ∷ []) (lost_in_step 0 3 1 ∷ lost_in_step 1 2 1 ∷ lost_in_step 2 3 1 ∷ lost_in_step 3 2 1 ∷ []) (asked 0 3 ∷ given 0 3 ∷ [])

another_node_delivers_it : bus_fates host_misses ≡ queued 0 3 1 0 (Sent 9 0 1 1 false) ∷ []
unfolding before_frame before_slot moment schedule_heard host_plan plan_round least_passing
another_node_delivers_it = refl

no_host_delivers_it : host_latency_counts host_misses ≡ []
unfolding before_frame before_slot moment schedule_heard host_plan plan_round least_passing
no_host_delivers_it = refl

-- host 1 fails in frame 1, so node 2 hosts rank 1 from frame 17 on. Its own packet is not delivered at the host, and that of node 3 is
abbrev backup_sends : ScenarioParts
backup_sends = all_linked 22 (1 ∷ 2 ∷ []) [] (asked 0 2 ∷ given 0 2 ∷ asked 0 3 ∷ given 0 3 ∷ at 1 1 Off ∷ [])

sent_to_the_backup : bus_fates backup_sends ≡ queued 0 2 1 0 (Sent 21 1 1 1 false) ∷ queued 0 3 1 0 (Sent 21 1 5 1 true) ∷ []
unfolding before_frame before_slot moment schedule_heard host_plan plan_round least_passing
sent_to_the_backup = refl

hosted_by_the_backup : hosted_counts backup_sends ≡ record { node = 2; stream = 0; at = 2; count = 1 } ∷ record { node = 3; stream = 0; at = 2; count = 1 } ∷ []
unfolding before_frame before_slot moment schedule_heard host_plan plan_round least_passing
hosted_by_the_backup = refl

late_at_the_backup : host_latency_counts backup_sends ≡ record { latency = record { node = 3; stream = 0; at = 2; frames = 21 }; count = 1 } ∷ []
unfolding before_frame before_slot moment schedule_heard host_plan plan_round least_passing
late_at_the_backup = refl
