-- What holds of the world of a flood at all times.
use Rattle.std.proofs.Common.{◌≡◌, ℕ, ◌+◌, ◌*◌, ◌<◌, ◌≤◌, ◌⊎◌, ◌↔◌, List, [], ◌∷◌, ◌++◌, map, filter_map, Option, Some, None, true, false, ◌==◌, if◌then◌else◌}
use Rattle.std.specs.Prelude.{Contains, AllPairs, ◌≢◌}
use Rattle.lwb_base.specs.Profile.{one}
use Rattle.tick_clock.specs.Clocks.{Near, due}
use Rattle.glossy_relay.specs.FloodState.{FloodState}
use Rattle.glossy_relay.specs.Relaying.{counter_of, reply_to}
use Rattle.glossy_relay.specs.declared.flood.Reply.TheVariants.{Relay}
use Rattle.scenario_text.specs.FloodParts.{FloodParts, knows}
use Rattle.bus_terms.specs.FloodOfText.{ids}
use Rattle.radio_model.specs.declared.sending.Sending.{Sending}
use Rattle.radio_model.specs.declared.station.Station.{Station}
use Rattle.radio_model.specs.declared.tuning.Tuned.{Tuned as TunedTo}
use Rattle.radio_model.specs.OnAir.{Hearing, Tuning}
use Rattle.radio_model.specs.Hearing.{Scene, HearsInScene}
use Rattle.radio_model.specs.Stations.{nodes_of, station_of}
use Rattle.radio_model.specs.Holding.{Holds, as_it_stands}
use Rattle.air_log.specs.declared.entry.Entry.{Entry}
use Rattle.air_log.specs.declared.entry.Entry.TheVariants.{Sent, Heard as HeardOf, Tuned}
use Rattle.air_log.specs.Entries.{sendings_of, tunings_of, HasHeardEntry}
use Rattle.air_log.specs.HearsAir.{scene_of}
use Rattle.air_log.specs.NodeEvents.{Event, Heard, Ended, sending_of_event, EventsInOrder, flood_after_events, event_occasions}
use Rattle.air_log.specs.FloodLaw.{OPENING, START, CLOSING, first_packet, first_flood, sending_at, Lasts, tuning_by}
use Rattle.lwb_base.proofs.Elements.{Distinct}
use Rattle.lwb_flood.specs.declared.member.Act.{Act}
use Rattle.lwb_flood.specs.declared.member.Act.TheVariants.{Listens, Waits, Sends, Off}
use Rattle.lwb_flood.specs.declared.member.Member.{Member}
use Rattle.lwb_flood.specs.FloodWorlds.{World, node_of_member}
use Rattle.lwb_flood.specs.TwoNodes.{packet_of}

abbrev pub scene : FloodParts → World → Scene
scene f w = scene_of one f.trace w.air

-- with the tunings that last at the tick of the last call
abbrev pub standing : FloodParts → World → Scene
standing f w = as_it_stands w.medium w.medium.now (scene f w)

-- the events of a node in the order of the log
abbrev pub event_in : ℕ → Entry → Option Event
event_in v (Sent x) = if x.node == v then Some (Ended x) else None
event_in v (HeardOf h) = if h.node == v then Some (Heard (record { rank = h.rank; node = h.from; start = h.start; end = h.end; packet = h.packet })) else None
event_in v (Tuned t) = None

abbrev pub events_in : List Entry → ℕ → List Event
events_in air v = filter_map (event_in v) air

-- of these the last is yet to come, where the node sends
abbrev pub running : Act → List Event
running Listens = []
running (Waits t packet) = []
running (Sends x) = Ended x ∷ []
running Off = []

-- what the medium says of a node
abbrev pub tuned_by : Act → Option TunedTo
tuned_by Listens = Some (record { rank = 0; since = OPENING })
tuned_by (Waits t packet) = Some (record { rank = 0; since = OPENING })
tuned_by (Sends x) = Some (record { rank = 0; since = OPENING })
tuned_by Off = None

abbrev pub sending_by : Act → Option Sending
sending_by Listens = None
sending_by (Waits t packet) = None
sending_by (Sends x) = Some x
sending_by Off = None

-- a packet of the flood that starts in its step, but for a tick for each relay
pub record InStep (f : FloodParts) (t : ℕ) (packet : List ℕ) : Type 0 where
  pub step : ℕ
  pub small : step ≤ 11
  pub is : packet ≡ packet_of f.start step
  pub near : Near t (START + step * 45056) step

-- why a node sends it at that tick: it starts the flood, or its flood answered a reception with the packet
pub record Begins (f : FloodParts) (v t : ℕ) (packet : List ℕ) : Type 0 where
  pub node : v ≡ f.start
  pub start : t ≡ START
  pub is : packet ≡ first_packet f.start

pub record Answers (f : FloodParts) (clock : ℕ → ℕ) (v : ℕ) (events : List Event) (t : ℕ) (packet : List ℕ) : Type 0 where
  pub heard : Sending
  pub flood : FloodState
  pub occasion : Contains (event_occasions (first_flood f v) events) (record { before = flood; event = Heard heard })
  pub answer : reply_to flood heard.packet ≡ Relay packet
  pub start : t ≡ due clock (clock heard.end + 12288)
  pub later : 1 ≤ counter_of packet

abbrev pub HasCause : FloodParts → (ℕ → ℕ) → ℕ → List Event → ℕ → List ℕ → Type 0
HasCause f clock v events t packet = Begins f v t packet ⊎ Answers f clock v events t packet

-- how a node is by what it is about. Those that are leaving have sent for the last time, and are still tuned in
pub record IsListening (leaving : List ℕ) (m : Member) : Type 0 where
  pub waits : m.flood.waiting ≡ false
  pub left : (m.flood.sent < m.flood.limit) ⊎ Contains leaving m.node

pub record IsWaiting (f : FloodParts) (clocks : ℕ → ℕ → ℕ) (w : World) (past : List Event) (m : Member) (t : ℕ) (packet : List ℕ) : Type 0 where
  pub waits : m.flood.waiting ≡ true
  pub left : m.flood.sent < m.flood.limit
  pub later : w.medium.now ≤ t
  pub step : InStep f t packet
  pub cause : HasCause f (clocks m.node) m.node past t packet

pub record IsSending (w : World) (m : Member) (x : Sending) : Type 0 where
  pub waits : m.flood.waiting ≡ true
  pub left : m.flood.sent < m.flood.limit
  pub own : x ≡ sending_at m.node x.start x.packet
  pub sent : Contains (sendings_of w.air) x
  pub later : w.medium.now ≤ x.end
  pub begun : (y : Sending) → Contains (sendings_of w.air) y → y.start < x.end

pub record IsGone (f : FloodParts) (w : World) (past : List Event) (m : Member) : Type 0 where
  pub waits : m.flood.waiting ≡ false
  pub over : (m.flood.sent ≡ m.flood.limit) ⊎ (CLOSING ≤ w.medium.now)
  pub tuned : Contains (tunings_of w.air) (tuning_by f.sends m.node past)

abbrev pub Stands : FloodParts → (ℕ → ℕ → ℕ) → World → List ℕ → List Event → Member → Act → Type 0
Stands f clocks w leaving past m Listens = IsListening leaving m
Stands f clocks w leaving past m (Waits t packet) = IsWaiting f clocks w past m t packet
Stands f clocks w leaving past m (Sends x) = IsSending w m x
Stands f clocks w leaving past m Off = IsGone f w past m

-- what a node's flood answered, the node has sent or waits to send
abbrev pub IsAnswered : FloodParts → (ℕ → ℕ) → World → List Event → Member → Type 0
IsAnswered f clock w past m = (h : Sending) (s : FloodState) (packet : List ℕ) → Contains (event_occasions (first_flood f m.node) past) (record {
  before = s;
  event = Heard h;
})
    → reply_to s h.packet ≡ Relay packet
    → Contains (sendings_of w.air) (sending_at m.node (due clock (clock h.end + 12288)) packet) ⊎ (m.act ≡ Waits (due clock (clock h.end + 12288)) packet)

pub record IsMember (f : FloodParts) (clocks : ℕ → ℕ → ℕ) (leaving : List ℕ) (w : World) (m : Member) : Type 0 where
  pub known : knows f.nodes m.node ≡ true
  pub station : Station
  pub found : station_of w.medium m.node ≡ Some station
  pub tuned : station.tuning.now ≡ tuned_by m.act
  pub sends : station.sending ≡ sending_by m.act
  pub past : List Event
  pub happened : events_in w.air m.node ≡ past ++ running m.act
  pub in_order : EventsInOrder (past ++ running m.act)
  pub over : (e : Event) → Contains past e → (sending_of_event e).end ≤ w.medium.now
  pub flood : m.flood ≡ flood_after_events (first_flood f m.node) past
  pub stands : Stands f clocks w leaving past m m.act
  pub answered : IsAnswered f (clocks m.node) w past m

-- a transmission runs: its node has not ended it
pub record Runs (w : World) (x : Sending) : Type 0 where
  pub member : Member
  pub there : Contains w.members member
  pub act : member.act ≡ Sends x

-- it has ended, and those who receive it by the rule of the air have a Heard entry of it, or are about to get one
pub record IsSettled (f : FloodParts) (todo : List Hearing) (w : World) (x : Sending) : Type 0 where
  pub ended : x.end ≤ w.medium.now
  pub over : Runs w x → ⊥
  pub heard : (v : ℕ) → (HasHeardEntry w.air v x ⊎ Contains todo (record { node = v; sending = x }))
      ↔ ((knows f.nodes v ≡ true) × HearsInScene (standing f w) v x)

pub record IsSent (f : FloodParts) (clocks : ℕ → ℕ → ℕ) (todo : List Hearing) (w : World) (x : Sending) : Type 0 where
  pub known : knows f.nodes x.node ≡ true
  pub lasts : Lasts x
  pub begun : x.start ≤ w.medium.now
  pub step : InStep f x.start x.packet
  pub cause : HasCause f (clocks x.node) x.node (events_in w.air x.node) x.start x.packet
  pub fate : Runs w x ⊎ IsSettled f todo w x

pub record WasHeard (f : FloodParts) (w : World) (v : ℕ) (x : Sending) : Type 0 where
  pub known : knows f.nodes v ≡ true
  pub sent : Contains (sendings_of w.air) x
  pub over : Runs w x → ⊥

-- a Heard entry that is about to be made: its transmission has just ended, and none has started since
pub record IsDue (w : World) (h : Hearing) : Type 0 where
  pub sent : Contains (sendings_of w.air) h.sending
  pub now : h.sending.end ≡ w.medium.now
  pub begun : (y : Sending) → Contains (sendings_of w.air) y → y.start < h.sending.end
  pub new : HasHeardEntry w.air h.node h.sending → ⊥

pub record WasTuned (f : FloodParts) (w : World) (t : Tuning) : Type 0 where
  pub member : Member
  pub there : Contains w.members member
  pub node : member.node ≡ t.node
  pub off : member.act ≡ Off
  pub is : t ≡ tuning_by f.sends t.node (events_in w.air t.node)

pub record WaitsToBegin (f : FloodParts) (w : World) : Type 0 where
  pub member : Member
  pub there : Contains w.members member
  pub node : member.node ≡ f.start
  pub act : member.act ≡ Waits START (first_packet f.start)

pub record IsFloodSoFar (f : FloodParts) (clocks : ℕ → ℕ → ℕ) (todo : List Hearing) (leaving : List ℕ) (w : World) : Type 0 where
  pub nodes : map node_of_member w.members ≡ ids f.nodes
  pub stations : nodes_of w.medium ≡ ids f.nodes
  pub numbers : w.medium.numbers ≡ one
  pub since : OPENING ≤ w.medium.now
  pub holds : Holds w.medium (scene f w)
  pub each : (m : Member) → Contains w.members m → IsMember f clocks leaving w m
  pub sent : (x : Sending) → Contains (sendings_of w.air) x → IsSent f clocks todo w x
  pub heard : (v : ℕ) (x : Sending) → HasHeardEntry w.air v x → WasHeard f w v x
  pub due_now : (h : Hearing) → Contains todo h → IsDue w h
  pub due_once : Distinct todo
  pub tunings : (t : Tuning) → Contains (tunings_of w.air) t → WasTuned f w t
  pub once : AllPairs (λ d e. d ≢ e) w.air
  pub begins : Contains (sendings_of w.air) (sending_at f.start START (first_packet f.start)) ⊎ WaitsToBegin f w
