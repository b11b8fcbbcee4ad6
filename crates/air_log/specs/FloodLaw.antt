-- The law of the log of one flood, in slot 1 of frame 5 of the first profile.
use Rattle.std.specs.Prelude.{◌≡◌, ◌≢◌, ℕ, ◌+◌, ◌-◌, ◌↔◌, List, [], ◌∷◌, Contains, AllPairs, length, get_or, true, ◌==◌, if◌then◌else◌}
use Rattle.lwb_base.specs.Profile.{one, airtime}
use Rattle.tick_clock.specs.Clocks.{due}
use Rattle.lwb_packets.specs.declared.kind.Kind.TheVariants.{Payload}
use Rattle.glossy_relay.specs.FloodState.{FloodState, listening, initiating}
use Rattle.glossy_relay.specs.Relaying.{counter_of, reply_to}
use Rattle.glossy_relay.specs.declared.flood.Reply.TheVariants.{Relay}
use Rattle.scenario_text.specs.FloodParts.{FloodParts, knows}
use Rattle.air_log.specs.declared.entry.Entry.{Entry}
use Rattle.radio_model.specs.declared.sending.Sending.{Sending}
use Rattle.radio_model.specs.OnAir.{Tuning}
use Rattle.air_log.specs.Entries.{sendings_of, tunings_of, node_of_entry, HasHeardEntry}
use Rattle.air_log.specs.HearsAir.{HearsAir}
use Rattle.air_log.specs.NodeEvents.{Event, Heard, Ended, EventsInOrder, event_occasions, own_ends}

-- all nodes tune in at this tick
abbrev pub OPENING : ℕ
OPENING = 1344000000

-- the packet of the starting node begins
abbrev pub START : ℕ
START = 1344064000

-- nodes go off that have sent fewer times than they may
abbrev pub CLOSING : ℕ
CLOSING = 1346096000

-- a data packet of the starting node in slot 1, of its first boot, stream 0 and number 0, with no payload
abbrev pub first_packet : ℕ → List ℕ
first_packet start = 2 ∷ 1 ∷ 0 ∷ start ∷ 1 ∷ 0 ∷ 0 ∷ 0 ∷ []

-- a transmission on the channel of rank 0 that lasts its packet's airtime
abbrev pub sending_at : ℕ → ℕ → List ℕ → Sending
sending_at v start packet = record {
  rank = 0;
  node = v;
  start = start;
  end = start + airtime one (length packet);
  packet = packet;
}

abbrev pub Lasts : Sending → Type 0
Lasts x = x ≡ sending_at x.node x.start x.packet

-- the flood of v at its beginning
abbrev pub first_flood : FloodParts → ℕ → FloodState
first_flood f v = if f.start == v then initiating (first_packet f.start) f.sends else listening Payload 1 f.sends

-- in the order of their ends, these are the receptions of v and its own transmissions
pub record AreEventsOf (air : List Entry) (v : ℕ) (events : List Event) : Type 0 where
  pub hearings : (x : Sending) → Contains events (Heard x) ↔ HasHeardEntry air v x
  pub sendings : (x : Sending) → Contains events (Ended x) ↔ (Contains (sendings_of air) x × (x.node ≡ v))
  pub in_order : EventsInOrder events

-- v is tuned until its N-th transmission has ended, or until the closing if it sends fewer times
abbrev pub tuning_by : ℕ → ℕ → List Event → Tuning
tuning_by sends v events = record {
  rank = 0;
  node = v;
  start = OPENING;
  end = get_or (own_ends events) (sends - 1) CLOSING;
}

-- the flood of its node answered a reception with the packet of x, which starts a turnaround after the end of that
-- reception by the node's clock
pub record IsRelay (f : FloodParts) (clock : ℕ → ℕ) (events : List Event) (x : Sending) : Type 0 where
  pub heard : Sending
  pub flood : FloodState
  pub occasion : Contains (event_occasions (first_flood f x.node) events) (record { before = flood; event = Heard heard })
  pub answer : reply_to flood heard.packet ≡ Relay x.packet
  pub start : x.start ≡ due clock (clock heard.end + one.turn)

pub record FloodLaw (f : FloodParts) (clocks : ℕ → ℕ → ℕ) (air : List Entry) : Type 0 where
  -- no entry is there twice
  pub once : AllPairs (λ d e. d ≢ e) air
  pub events : ℕ → List Event
  pub happened : (v : ℕ) → knows f.nodes v ≡ true → AreEventsOf air v (events v)
  -- nodes alone have entries, and each is tuned once
  pub known : (e : Entry) → Contains air e → knows f.nodes (node_of_entry e) ≡ true
  pub tuned : (t : Tuning) → Contains (tunings_of air) t
      ↔ ((knows f.nodes t.node ≡ true) × (t ≡ tuning_by f.sends t.node (events t.node)))
  -- the starting node begins, and nobody else
  pub begun : (x : Sending) → (Contains (sendings_of air) x × (counter_of x.packet ≡ 0))
      ↔ (x ≡ sending_at f.start START (first_packet f.start))
  pub lasts : (x : Sending) → Contains (sendings_of air) x → Lasts x
  -- nodes receive by the rule of the air
  pub hears : (v : ℕ) (x : Sending) → HasHeardEntry air v x ↔ ((knows f.nodes v ≡ true) × HearsAir one f.trace air v x)
  -- what a node relays, it sends, and nothing else
  pub relayed : (x : Sending) → knows f.nodes x.node ≡ true → Lasts x → IsRelay f (clocks x.node) (events x.node) x
      → Contains (sendings_of air) x
  pub relays : (x : Sending) → Contains (sendings_of air) x → counter_of x.packet ≢ 0
      → IsRelay f (clocks x.node) (events x.node) x
