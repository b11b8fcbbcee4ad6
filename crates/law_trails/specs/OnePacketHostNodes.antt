-- The nodes of the host in the worked rounds of one packet, by frame and slot.
use Rattle.std.specs.Prelude.{true, false, None, Some, ℕ, [], ◌∷◌, Bool}
use Rattle.lwb_packets.specs.declared.kind.Kind.TheVariants.{Schedule, Payload, Request}
use Rattle.bus_rules.specs.declared.part.Part.TheVariants.{Opening, Data, Contention, Closing}
use Rattle.node_core.specs.declared.stage.Stage.TheVariants.{Scanning, AwaitFrame, AwaitSlot}
use Rattle.node_core.specs.Nodes.{Node}
use Rattle.air_log.specs.FirstRound.{opening_with}
use Rattle.law_trails.specs.OnePacket.{request_with, grant_with, reopening_with, data_with, data_closing_with}
use Rattle.law_trails.specs.OnePacketNodes.{request, scanning_core, hosts_first, hosts_granted, hosts_next, node, window, flood}

-- nodes by frame and slot: before the window of a slot, while it listens, and after this many transmissions of its flood
abbrev pub scanning : ℕ → Node
scanning waited = node (scanning_core waited) waited 0 Scanning

abbrev pub awaits_5_0 : Node
awaits_5_0 = node (hosts_first []) 5 1344000000 (AwaitSlot 0)

abbrev pub floods_5_0 : ℕ → Bool → Node
floods_5_0 sent waits = node (hosts_first []) 5 1344000000 (window 0 Opening 2 (flood Schedule 0 sent waits true (Some (opening_with 0))) None)

abbrev pub awaits_5_1 : Node
awaits_5_1 = node (hosts_first []) 5 1344000000 (AwaitSlot 1)

abbrev pub listens_5_1 : Node
listens_5_1 = node (hosts_first []) 5 1344000000 (window 1 (Contention 1) 2 (flood Request 1 0 false false None) None)

abbrev pub floods_5_1 : ℕ → Bool → Node
floods_5_1 sent waits = node (hosts_first []) 5 1344000000 (window 1 (Contention 1) 2 (flood Request 1 sent waits false (Some (request_with 0))) None)

abbrev pub awaits_5_2 : Node
awaits_5_2 = node (hosts_first (request ∷ [])) 5 1344000000 (AwaitSlot 2)

abbrev pub floods_5_2 : ℕ → Bool → Node
floods_5_2 sent waits = node (hosts_granted 0) 5 1344000000 (window 2 Closing 2 (flood Schedule 2 sent waits true (Some (grant_with 0))) None)

abbrev pub waits_for_9 : ℕ → Node
waits_for_9 frame = node (hosts_granted 0) frame 2368000000 AwaitFrame

abbrev pub awaits_9_0 : Node
awaits_9_0 = node (hosts_granted 0) 9 2368000000 (AwaitSlot 0)

abbrev pub floods_9_0 : ℕ → Bool → Node
floods_9_0 sent waits = node (hosts_granted 0) 9 2368000000 (window 0 Opening 6 (flood Schedule 0 sent waits true (Some (reopening_with 0))) None)

abbrev pub awaits_9_1 : Node
awaits_9_1 = node (hosts_granted 0) 9 2368000000 (AwaitSlot 1)

abbrev pub listens_9_1 : Node
listens_9_1 = node (hosts_granted 0) 9 2368000000 (window 1 (Data 8) 6 (flood Payload 1 0 false false None) None)

abbrev pub floods_9_1 : ℕ → Bool → Node
floods_9_1 sent waits = node (hosts_granted 0) 9 2368000000 (window 1 (Data 8) 6 (flood Payload 1 sent waits false (Some (data_with 0))) None)

abbrev pub awaits_9_2 : Node
awaits_9_2 = node (hosts_granted 0) 9 2368000000 (AwaitSlot 2)

abbrev pub listens_9_2 : Node
listens_9_2 = node (hosts_granted 0) 9 2368000000 (window 2 (Data 8) 6 (flood Payload 2 0 false false None) None)

abbrev pub awaits_9_3 : Node
awaits_9_3 = node (hosts_granted 1) 9 2368000000 (AwaitSlot 3)

abbrev pub listens_9_3 : Node
listens_9_3 = node (hosts_granted 1) 9 2368000000 (window 3 (Data 8) 6 (flood Payload 3 0 false false None) None)

abbrev pub awaits_9_4 : Node
awaits_9_4 = node (hosts_granted 2) 9 2368000000 (AwaitSlot 4)

abbrev pub listens_9_4 : Node
listens_9_4 = node (hosts_granted 2) 9 2368000000 (window 4 (Data 8) 6 (flood Payload 4 0 false false None) None)

abbrev pub awaits_9_5 : Node
awaits_9_5 = node (hosts_granted 3) 9 2368000000 (AwaitSlot 5)

abbrev pub listens_9_5 : Node
listens_9_5 = node (hosts_granted 3) 9 2368000000 (window 5 (Contention 1) 6 (flood Request 5 0 false false None) None)

abbrev pub awaits_9_6 : Node
awaits_9_6 = node (hosts_granted 3) 9 2368000000 (AwaitSlot 6)

abbrev pub floods_9_6 : ℕ → Bool → Node
floods_9_6 sent waits = node hosts_next 9 2368000000 (window 6 Closing 6 (flood Schedule 6 sent waits true (Some (data_closing_with 0))) None)

abbrev pub waits_for_13 : ℕ → Node
waits_for_13 frame = node hosts_next frame 3392000000 AwaitFrame
