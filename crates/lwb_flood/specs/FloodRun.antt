-- The record of what nodes did in one flood on the air, and what makes it one.
use Rattle.std.specs.Prelude.{◌≡◌, ◌≢◌, ℕ, ◌+◌, ◌*◌, ◌<◌, ◌≤◌, ◌↔◌, List, ◌++◌, Contains, slice_set, true, Some, None, if◌then◌else◌}
use Rattle.lwb_base.specs.declared.limits.TheConstants.{FLOOD_STEPS, LAST_STEP}
use Rattle.tick_clock.specs.Clocks.{Near}
use Rattle.lwb_packets.specs.Body.{body}
use Rattle.lwb_packets.specs.declared.kind.Kind.{Kind}
use Rattle.glossy_relay.specs.FloodState.{FloodState}
use Rattle.glossy_relay.specs.Relaying.{is_spelling, slot_of, counter_of, reply_to}
use Rattle.glossy_relay.specs.declared.flood.Reply.TheVariants.{Relay}
use Rattle.bus_terms.specs.Flooding.{Setting, has}
use Rattle.radio_model.specs.declared.sending.Sending.{Sending}
use Rattle.radio_model.specs.OnAir.{Hearing}
use Rattle.radio_model.specs.Hearing.{Traffic, IsSilent, Hears}
use Rattle.air_log.specs.NodeEvents.{Event, Heard, Ended, sending_of_event, EventsInOrder, flood_after_events, event_occasions}

-- What is given: the setting of the flood by steps (its limit, links, capture lines, initiators, and all that take part);
-- the kind, slot and channel of its packets; each initiator's packet, and when it starts.
-- In ticks: how long a packet is on the air, the turnaround, the greatest displacement of equal packets that are received
-- as one, and the greatest difference of two initiators' starts.
-- What was done: the transmissions, the receptions, each node's events in the order of their ends, and when a node starts a
-- relay of what it received up to a tick.
pub record Run : Type 0 where
  pub setting : Setting
  pub kind : Kind
  pub slot : ℕ
  pub rank : ℕ
  pub message : ℕ → List ℕ
  pub starts : ℕ → ℕ
  pub air : ℕ
  pub turn : ℕ
  pub delta : ℕ
  pub spread : ℕ
  pub sendings : List Sending
  pub hearings : List Hearing
  pub events : ℕ → List Event
  pub relay_start : ℕ → ℕ → ℕ

abbrev pub initiates : Run → ℕ → Type 0
initiates r o = has r.setting.initiators o ≡ true

abbrev pub IsParticipant : Run → ℕ → Type 0
IsParticipant r v = has r.setting.everyone v ≡ true

abbrev pub counter : Sending → ℕ
counter x = counter_of x.packet

-- an initiator's packet with another counter
abbrev pub packet : Run → ℕ → ℕ → List ℕ
packet r o k = slice_set (r.message o) 2 k

abbrev pub WasHeard : Run → ℕ → Sending → Type 0
WasHeard r v x = Contains r.hearings (record { node = v; sending = x })

-- a transmission that lasts as long as the run's packets do
abbrev pub sending_of_run : Run → ℕ → ℕ → List ℕ → Sending
sending_of_run r v start p = record { rank = r.rank; node = v; start = start; end = start + r.air; packet = p }

-- a node's flood at its beginning
abbrev pub flood_at_beginning : Run → ℕ → FloodState
flood_at_beginning r v = record {
  kind = r.kind;
  slot = r.slot;
  limit = r.setting.limit;
  sent = 0;
  waiting = has r.setting.initiators v;
  initiated = has r.setting.initiators v;
  first = if has r.setting.initiators v then Some (r.message v) else None;
}

-- x lies within twelve steps from an initiator's start
pub record InTime (r : Run) (x : Sending) : Type 0 where
  pub origin : ℕ
  pub initiator : initiates r origin
  pub since : r.starts origin ≤ x.start
  pub until : x.end ≤ r.starts origin + FLOOD_STEPS * (r.air + r.turn)

-- what the rule of reception asks of a run: links pass and capture lines are sorted by the counter alone
abbrev pub traffic_of_run : Run → Traffic
traffic_of_run r = record {
  sendings = r.sendings;
  comes = λ y v. r.setting.passes (counter y) y.node v;
  names = λ x v. r.setting.captured (counter x) v;
  delta = r.delta;
}

-- v receives x by that rule. `Tuned` says that a node is tuned while a transmission lasts
abbrev pub HearsIn : Run → (ℕ → Sending → Type 0) → ℕ → Sending → Type 0
HearsIn r Tuned v x = Hears (traffic_of_run r) Tuned v x

-- v's flood answered a reception with the packet of x, which starts a turnaround later
pub record RelayedInRun (r : Run) (v : ℕ) (x : Sending) : Type 0 where
  pub heard : Sending
  pub flood : FloodState
  pub occasion : Contains (event_occasions (flood_at_beginning r v) (r.events v)) (record { before = flood; event = Heard heard })
  pub answer : reply_to flood heard.packet ≡ Relay x.packet
  pub start : x.start ≡ r.relay_start v heard.end

pub record RunHasRoom (r : Run) : Type 0 where
  pub room_to_turn : r.spread + 23 < r.turn
  pub room_to_overlap : r.spread + 22 < r.air
  pub displacement : 22 ≤ r.delta

-- the initiators' packets are spelled in this slot with any counter, begin with counter 0, and differ in more than the
-- counter; they start together
pub record HasInitiators (r : Run) : Type 0 where
  pub there : (o : ℕ) → initiates r o → IsParticipant r o
  pub counter_zero : (o : ℕ) → initiates r o → counter_of (r.message o) ≡ 0
  pub spelled : (o k : ℕ) → initiates r o → k ≤ LAST_STEP → is_spelling r.kind (packet r o k) ≡ true
  pub slot : (o : ℕ) → initiates r o → slot_of (r.message o) ≡ r.slot
  pub different : (o p : ℕ) → initiates r o → initiates r p → body (r.message o) ≡ body (r.message p) → o ≡ p
  pub together : (o p : ℕ) → initiates r o → initiates r p → Near (r.starts o) (r.starts p) r.spread

-- with counter 0 the initiators send, and with another who relays
pub record HasSendings (r : Run) : Type 0 where
  pub lasts : (x : Sending) → Contains r.sendings x → (x.rank ≡ r.rank) × (x.end ≡ x.start + r.air)
  pub begun : (o : ℕ) → initiates r o → Contains r.sendings (sending_of_run r o (r.starts o) (r.message o))
  pub beginnings : (x : Sending) → Contains r.sendings x → counter x ≡ 0
      → initiates r x.node × (x.start ≡ r.starts x.node) × (x.packet ≡ r.message x.node)
  pub relayed : (v start : ℕ) (p : List ℕ) → IsParticipant r v → RelayedInRun r v (sending_of_run r v start p)
      → Contains r.sendings (sending_of_run r v start p)
  pub relays : (x : Sending) → Contains r.sendings x → counter x ≢ 0 → IsParticipant r x.node × RelayedInRun r x.node x

-- the events of a node are its receptions and its own transmissions
pub record HasEvents (r : Run) : Type 0 where
  pub heard_events : (v : ℕ) (x : Sending) → IsParticipant r v → Contains (r.events v) (Heard x) ↔ WasHeard r v x
  pub ended_events : (v : ℕ) (x : Sending) → IsParticipant r v
      → Contains (r.events v) (Ended x) ↔ (Contains r.sendings x × (x.node ≡ v))
  pub in_order : (v : ℕ) → IsParticipant r v → EventsInOrder (r.events v)

-- a relay starts a turnaround after the end of what was received, but for one tick
abbrev pub TurnsAround : Run → Type 0
TurnsAround r = (v : ℕ) (x : Sending) → IsParticipant r v → WasHeard r v x → InTime r x
    → Near (r.relay_start v x.end) (x.end + r.turn) 1

-- all from which the times of the transmissions follow: receptions are only asked to be of transmissions
pub record RunHasTimes (r : Run) : Type 0 where
  pub room : RunHasRoom r
  pub open room use *
  pub initiators : HasInitiators r
  pub open initiators use *
  pub sent : HasSendings r
  pub open sent use *
  pub happened : HasEvents r
  pub open happened use *
  pub heard_sent : (v : ℕ) (x : Sending) → IsParticipant r v → WasHeard r v x → Contains r.sendings x
  pub turned : TurnsAround r

-- what is received is what the air's rule says
abbrev pub HearsByRule : Run → (ℕ → Sending → Type 0) → Type 0
HearsByRule r Tuned = (v : ℕ) (x : Sending) → IsParticipant r v → WasHeard r v x ↔ HearsIn r Tuned v x

-- these events of v have ended when x starts, and the rest have not
pub record IsSplitAtStart (r : Run) (v : ℕ) (x : Sending) (before rest : List Event) : Type 0 where
  pub whole : r.events v ≡ before ++ rest
  pub ended : (e : Event) → Contains before e → (sending_of_event e).end ≤ x.start
  pub later : (e : Event) → Contains rest e → x.start < (sending_of_event e).end

-- while it does not send, v is tuned if and only if fewer than its limit of own transmissions have ended
abbrev pub TunedByCount : Run → (ℕ → Sending → Type 0) → ℕ → Type 0
TunedByCount r Tuned v = (x : Sending) (before rest : List Event) → Contains r.sendings x → InTime r x
    → IsSplitAtStart r v x before rest → IsSilent (traffic_of_run r) v x
    → Tuned v x ↔ ((flood_after_events (flood_at_beginning r v) before).sent < r.setting.limit)

pub record FloodRun (r : Run) (Tuned : ℕ → Sending → Type 0) : Type 0 where
  pub times : RunHasTimes r
  pub hears : HearsByRule r Tuned
  pub tuned : (v : ℕ) → IsParticipant r v → TunedByCount r Tuned v
