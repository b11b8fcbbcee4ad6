-- Windows of node 2 in the worked rounds of one packet, written down manually, next to the one of frame 5 in which it asks:
-- that of slot 2 in frame 9, in which nobody says anything, and that of slot 1 before it, which opens late.
use Rattle.std.specs.Prelude.{◌≡◌, ℕ, [], ◌∷◌, true, false, Some, None}
use Rattle.std.specs.Option.{IfSome}
use Rattle.lwb_packets.specs.declared.kind.Kind.TheVariants.{Payload}
use Rattle.bus_rules.specs.declared.part.Part.TheVariants.{Data}
use Rattle.node_core.specs.declared.stage.Stage.TheVariants.{AwaitSlot}
use Rattle.node_core.specs.Windows.{Window}
use Rattle.glossy_relay.specs.FloodState.{FloodState}
use Rattle.air_log.specs.Charges.{charge_of_window}
use Rattle.air_log.specs.WindowLogs.{WindowLog, HeardAt, SentAt}
use Rattle.law_trails.specs.OnePacket.{drifting, one_packet, one_packet_log, data_0, data_1, data_2, data_with}
use Rattle.law_trails.specs.OnePacketMemberNodes.{awaits_9_2, awaits_9_3, floods_9_1, listens_9_2}
use Rattle.law_trails.specs.OnePacketNodes.{flood, node, reopened, waiting}
use Rattle.law_windows.specs.WindowRows.{ClosesAs, IsOpened}
use Rattle.law_windows.specs.WorkedWindows.{asking_window}
use Rattle.law_windows.specs.RadioTimes.{on_within}

abbrev pub asking : WindowLog
asking = asking_window

abbrev last_of_9 : FloodState → Window
last_of_9 f = record { part = Data 8; last = 6; flood = f; reference = None }

abbrev pub listening_window : WindowLog
listening_window = record {
  frame = 9;
  rank = 0;
  slot = 2;
  by_alarm = true;
  opened = 2372176722;
  before = awaits_9_2;
  after = listens_9_2;
  happenings = [];
  last = last_of_9 (flood Payload 2 0 false false None);
  closed = Some (record { tick = 2374272764; after = awaits_9_3 });
}

-- the window of slot 0 closed at this tick by the zero that the node had before
abbrev pub window_closed_late : WindowLog
window_closed_late = record {
  frame = 9;
  rank = 0;
  slot = 1;
  by_alarm = true;
  opened = 2370089470;
  before = node (reopened waiting) 9 2367905278 (AwaitSlot 1);
  after = floods_9_1 0 true;
  happenings = SentAt data_0.end (data_with 0) ∷ HeardAt data_1.end (data_with 1) ∷ SentAt data_2.end (data_with 2) ∷ [];
  last = last_of_9 (flood Payload 1 2 false true (Some (data_with 0)));
  closed = Some (record { tick = 2372160722; after = awaits_9_2 });
}

-- it opens and closes by the rows of the node table
abbrev pub GoesByRows : WindowLog → Type 0
GoesByRows w = IsOpened one_packet drifting 2 w × IfSome w.closed (ClosesAs one_packet drifting 2 w)

-- by the log of the rounds the radio was on for this many ticks in it, and it is charged this many
abbrev pub Costs : WindowLog → ℕ → ℕ → Type 0
Costs w on charged = IfSome w.closed (λ c. on_within one_packet_log 2 w.opened c.tick ≡ on) × (charge_of_window one_packet w ≡ charged)
