-- The words in which the devices of the worked trails of one packet are written down.
use Rattle.std.specs.Prelude.{ℕ, List, [], ◌∷◌, Bool, drop, take, Some, None}
use Rattle.std.specs.declared.option.Option.{Option}
use Rattle.lwb_base.specs.Messages.{Ask, Plan}
use Rattle.lwb_packets.specs.declared.kind.Kind.{Kind}
use Rattle.glossy_relay.specs.FloodState.{FloodState}
use Rattle.radio_model.specs.declared.sending.Sending.{Sending}
use Rattle.radio_model.specs.OnAir.{Tuning}
use Rattle.bus_rules.specs.declared.delivery.Delivery.{Delivery}
use Rattle.bus_rules.specs.declared.part.Part.{Part}
use Rattle.bus_rules.specs.declared.tune.Tune.{Tune}
use Rattle.bus_rules.specs.declared.tune.Tune.TheVariants.{Scan, Hold, Host}
use Rattle.bus_rules.specs.Streams.{Streams, WaitingPacket, no_stream}
use Rattle.bus_rules.specs.Cores.{Core, booted, no_plan}
use Rattle.node_core.specs.declared.stage.Stage.{Stage}
use Rattle.node_core.specs.declared.stage.Stage.TheVariants.{InWindow}
use Rattle.node_core.specs.Nodes.{Node}
use Rattle.air_log.specs.WindowLogs.{WindowLog}
use Rattle.air_log.specs.Devices.{Device, PowerOn, Listening, OrderedPacket, Made, at_rest, nothing_made}
use Rattle.law_trails.specs.OnePacket.{sent_by_host, sent_by_member, tuned_by_host, tuned_by_member}

-- the host's plans, the first without owners, and the request of node 2
abbrev pub first_plan : Plan
first_plan = record no_plan { boot = 1 }

abbrev pub request : Ask
request = record { node = 2; boot = 1; stream = 0; interval = 4 }

abbrev pub next_plan : Plan
next_plan = record first_plan { owners = 8 ∷ 8 ∷ 8 ∷ 8 ∷ [] }

abbrev pub granted_plan : Plan
granted_plan = record next_plan { acks = request ∷ [] }

-- the host while it scans, hosts its first round with what it kept, and goes by its next two plans, node 2 having been
-- unheard in this many slots
abbrev pub scanning_core : ℕ → Core
scanning_core waited = record (booted 1) { tune = Scan 0 waited }

abbrev pub hosts_first : List Ask → Core
hosts_first kept = record (booted 1) { tune = Host 0 5; plan = first_plan; kept = kept }

abbrev pub hosts_by : ℕ → Plan → ℕ → ℕ → Core
hosts_by due plan granted unheard = record (booted 1) {
  tune = Host 0 due;
  plan = plan;
  table = record { entries = record { code = 8; boot = 1; interval = 4; accepted = 5; granted = granted; unheard = unheard } ∷ []; place = 0 };
}

abbrev pub hosts_granted : ℕ → Core
hosts_granted unheard = hosts_by 9 granted_plan 4 unheard

abbrev pub hosts_next : Core
hosts_next = hosts_by 13 next_plan 8 3

-- node 2, with its one stream
abbrev pub waiting : List WaitingPacket
waiting = record { seq = 0; payload = 170 ∷ [] } ∷ []

abbrev pub streams_with : ℕ → ℕ → List WaitingPacket → ℕ → Option (ℕ × ℕ) → Streams
streams_with agreed last queue tries host = record {
  all = record { wish = 4; agreed = agreed; last = last; queue = queue; next = 1 } ∷ no_stream ∷ no_stream ∷ no_stream ∷ [];
  tries = tries;
  skips = 0;
  host = host;
}

abbrev pub member : Tune → Plan → Streams → Option ℕ → Core
member tune plan streams own_slot = record (booted 1) { tune = tune; plan = plan; streams = streams; own_slot = own_slot }

-- while it scans, after the first opening with this many tries, as it holds its slots, and from the opening of their round on
abbrev pub scans_waiting : ℕ → Core
scans_waiting waited = member (Scan 0 waited) no_plan (streams_with 0 0 waiting 0 None) None

abbrev pub joining_core : ℕ → Core
joining_core tries = member (Scan 0 5) first_plan (streams_with 0 0 waiting tries (Some (0, 1))) (Some 1)

abbrev pub holding_core : Option ℕ → Core
holding_core own_slot = member (Hold 0 9) granted_plan (streams_with 4 5 waiting 0 (Some (0, 1))) own_slot

abbrev pub reopened : List WaitingPacket → Core
reopened queue = member (Hold 0 9) granted_plan (streams_with 4 9 queue 0 (Some (0, 1))) (Some 1)

abbrev pub holds_on : Option ℕ → Core
holds_on own_slot = member (Hold 0 13) next_plan (streams_with 4 9 [] 0 (Some (0, 1))) own_slot

-- nodes, windows and floods by their fields
abbrev pub node : Core → ℕ → ℕ → Stage → Node
node core frame begins stage = record { core = core; frame = frame; zero = begins; stage = stage }

abbrev pub window : ℕ → Part → ℕ → FloodState → Option ℕ → Stage
window j part last flood reference = InWindow j (record { part = part; last = last; flood = flood; reference = reference })

abbrev pub flood : Kind → ℕ → ℕ → Bool → Bool → Option (List ℕ) → FloodState
flood kind slot sent waits initiated first = record { kind = kind; slot = slot; limit = 2; sent = sent; waiting = waits; initiated = initiated; first = first }

-- devices
abbrev pub since : ℕ → Listening
since tick = record { rank = 0; since = tick }

abbrev pub to_send : ℕ → List ℕ → OrderedPacket
to_send tick packet = record { tick = tick; packet = packet }

abbrev pub made_with : List Sending → List Tuning → List Delivery → List WindowLog → Made
made_with sent tuned deliveries windows = record { sent = sent; tuned = tuned; deliveries = deliveries; windows = windows }

-- the first this many transmissions, and all but the last this many tunings
abbrev pub made_by_host : ℕ → ℕ → List Delivery → List WindowLog → Made
made_by_host sent tuned deliveries windows = made_with (take sent sent_by_host) (drop tuned tuned_by_host) deliveries windows

abbrev pub by_member : ℕ → ℕ → List WindowLog → Made
by_member sent tuned windows = made_with (take sent sent_by_member) (drop tuned tuned_by_member) [] windows

abbrev pub delivered : List Delivery
delivered = record { frame = 9; rank = 0; slot = 1; node = 1; from = 2; boot = 1; stream = 0; seq = 0; payload = 170 ∷ [] } ∷ []

abbrev pub device : Node → Option Listening → Option ℕ → Option OrderedPacket → Option Sending → Made → Device
device n listening alarm ordered sending made =
    record { power = PowerOn n; listening = listening; alarm = alarm; ordered = ordered; sending = sending; made = made }

abbrev pub rests : List WindowLog → Device
rests windows = record at_rest { made = record nothing_made { windows = windows } }
