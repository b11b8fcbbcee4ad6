-- Courses of node 2 in the worked rounds of one packet. In frame 5 it joins, in frame 9 it holds slots, and its window of
-- slot 1 opens late.
use Rattle.std.specs.Prelude.{◌≡◌, ℕ, List, ◌∷◌, true, false, Some, None}
use Rattle.lwb_base.specs.declared.event.Event.TheVariants.{Alarm}
use Rattle.lwb_packets.specs.declared.kind.Kind.TheVariants.{Schedule, Payload}
use Rattle.bus_rules.specs.declared.part.Part.TheVariants.{Opening, Data}
use Rattle.bus_rules.specs.Cores.{frame_ended}
use Rattle.bus_rules.specs.States.{StateOn}
use Rattle.node_core.specs.declared.stage.Stage.TheVariants.{AwaitSlot}
use Rattle.node_core.specs.Nodes.{Node}
use Rattle.node_core.specs.Windows.{Window}
use Rattle.air_log.specs.Devices.{Device, PowerOn, state_of_power}
use Rattle.scenario_text.specs.Setups.{setup_of}
use Rattle.air_log.specs.Trails.{one_alarm}
use Rattle.air_log.specs.WindowLogs.{WindowLog, opened_log}
use Rattle.law_trails.specs.OnePacket.{data_with, drifting, one_packet, one_packet_log}
use Rattle.law_trails.specs.OnePacketMember.{member_32, member_36, member_late}
use Rattle.law_trails.specs.OnePacketMemberNodes.{awaits_9_0, floods_9_1, listens_9_0, rests_after_5, waits_for_9}
use Rattle.law_trails.specs.OnePacketNodes.{flood, node, reopened, waiting}
use Rattle.law_terms.specs.FrameCourses.{power_after, power_at}
use Rattle.law_windows.specs.FramePlaces.{StandsByTune}

-- frame 5 ends as the closing of its last window has left the node
abbrev pub EndsFrame5 : Type 0
EndsFrame5 = state_of_power (power_after one_packet drifting one_packet_log 2 5) ≡ StateOn (frame_ended (setup_of one_packet 2) 5 (rests_after_5 5).core)

-- in frame 7 it has no window
abbrev pub RestsInFrame7 : Type 0
RestsInFrame7 =
    (power_at one_packet drifting one_packet_log 2 7 ≡ PowerOn (waits_for_9 7))
    × (state_of_power (power_after one_packet drifting one_packet_log 2 7) ≡ StateOn (frame_ended (setup_of one_packet 2) 7 (waits_for_9 7).core))

-- in frame 9 it awaits slot 0, whose window opens at that node
abbrev pub AwaitsInFrame9 : Type 0
AwaitsInFrame9 = power_at one_packet drifting one_packet_log 2 9 ≡ PowerOn awaits_9_0

-- at the start of both it is where its tune puts it
abbrev pub StandsInFrame7And9 : Type 0
StandsInFrame7And9 = StandsByTune (waits_for_9 7) × StandsByTune awaits_9_0

-- the windows after an alarm of its device at a tick
abbrev pub windows_at : ℕ → Device → List WindowLog
windows_at t d = (one_alarm (drifting 2) (setup_of one_packet 2) t d).made.windows

abbrev pub window_0 : Window
window_0 = record { part = Opening; last = 6; flood = flood Schedule 0 0 false false None; reference = None }

abbrev pub OpensSlot0 : Type 0
OpensSlot0 = (ws : List WindowLog)
    → windows_at 2367993428 (member_32 ws) ≡ opened_log 2367993428 Alarm None awaits_9_0 listens_9_0 0 window_0 ∷ ws

-- that closes to a node that awaits slot 1, and the window of slot 1 opens at this one
abbrev pub late_node : Node
late_node = node (reopened waiting) 9 2367905278 (AwaitSlot 1)

abbrev pub window_1 : Window
window_1 = record { part = Data 8; last = 6; flood = flood Payload 1 0 true true (Some (data_with 0)); reference = None }

abbrev pub ClosesSlot0 : Type 0
ClosesSlot0 = (x : WindowLog) (ws : List WindowLog)
    → windows_at 2370089470 (member_36 (x ∷ ws)) ≡ record x { closed = Some (record { tick = 2370089470; after = late_node }) } ∷ ws

abbrev pub OpensSlot1 : Type 0
OpensSlot1 = (ws : List WindowLog)
    → windows_at 2370089470 (member_late ws) ≡ opened_log 2370089470 Alarm None late_node (floods_9_1 0 true) 1 window_1 ∷ ws
