-- A node's part in the flood of a slot, by its window: what it begins with, and what it relays.
use Rattle.std.specs.Prelude.{◌≡◌, ◌≢◌, ℕ, ◌+◌, ◌-◌, ◌≤◌, get_or, List, Contains, true, Some}
use Rattle.tick_clock.specs.Clocks.{due}
use Rattle.time_reference.specs.Zeros.{tick_at_offset, starting_offset}
use Rattle.glossy_relay.specs.FloodState.{FloodState}
use Rattle.glossy_relay.specs.Relaying.{reply_to}
use Rattle.glossy_relay.specs.declared.flood.Reply.TheVariants.{Relay}
use Rattle.bus_rules.specs.Slots.{Message}
use Rattle.lwb_member.specs.Said.{bytes_of}
use Rattle.scenario_text.specs.ScenarioParts.{ScenarioParts}
use Rattle.radio_model.specs.declared.sending.Sending.{Sending}
use Rattle.radio_model.specs.Hearing.{TunedThrough, counter_of_sending}
use Rattle.air_log.specs.declared.entry.Entry.{Entry}
use Rattle.air_log.specs.Entries.{sendings_of}
use Rattle.air_log.specs.HearsAir.{scene_of}
use Rattle.air_log.specs.NodeEvents.{Event, Heard, event_occasions, own_ends}
use Rattle.scenario_text.specs.Setups.{setup_of}
use Rattle.air_log.specs.WindowLogs.{WindowLog}
use Rattle.law_windows.specs.WindowEvents.{WindowHasEvents}
use Rattle.law_windows.specs.WindowFloods.{flood_at_first, initial_message}
use Rattle.law_windows.specs.WindowTimes.{IsOfSlot}

module _ (s : ScenarioParts) (clocks : ℕ → ℕ → ℕ) (air : List Entry) (v : ℕ) (w : WindowLog) where
  -- v sent this packet in the slot, from this tick on
  pub record SendsAt (start : ℕ) (packet : List ℕ) : Type 0 where
    pub sending : Sending
    pub there : Contains (sendings_of air) sending
    pub node : sending.node ≡ v
    pub of_slot : IsOfSlot s w sending
    pub at : sending.start ≡ start
    pub packet_is : sending.packet ≡ packet

  -- it is what the node says at the opening
  pub record IsSaid (x : Sending) : Type 0 where
    pub by_alarm : w.by_alarm ≡ true
    pub message : Message
    pub said : initial_message (setup_of s v) w ≡ Some message
    pub packet_is : x.packet ≡ bytes_of message w.slot
    pub at : x.start ≡ tick_at_offset (clocks v) w.after.zero (starting_offset s.profile w.slot)

  -- the flood answered a reception among these events with its packet, a turnaround before it starts
  pub record IsAnswer (events : List Event) (x : Sending) : Type 0 where
    pub heard : Sending
    pub flood : FloodState
    pub occasion : Contains (event_occasions (flood_at_first (setup_of s v) w.by_alarm w) events) (record { before = flood; event = Heard heard })
    pub answer : reply_to flood heard.packet ≡ Relay x.packet
    pub at : x.start ≡ due (clocks v) (clocks v heard.end + s.profile.turn)

  -- its last transmission that may be ends then, if it has this many
  abbrev pub off_by : List Event → ℕ → ℕ
  off_by events far = get_or (own_ends events) (s.sends - 1) far

  -- through what is sent in the slot since the opening it is tuned if and only if that ends by then
  pub record IsTunedBy (events : List Event) : Type 0 where
    pub tuned : (x : Sending) (far : ℕ) → Contains (sendings_of air) x → IsOfSlot s w x → w.opened ≤ x.start
        → x.end ≤ off_by events far → TunedThrough (scene_of s.profile s.trace air) v x
    pub only : (x : Sending) (far : ℕ) → Contains (sendings_of air) x → IsOfSlot s w x → w.opened ≤ x.start
        → TunedThrough (scene_of s.profile s.trace air) v x → x.end ≤ far → x.end ≤ off_by events far

  -- with counter 0 a node sends what it says, and with another counter exactly what its flood relays
  pub record TakesPart : Type 0 where
    pub has : WindowHasEvents s air v w
    pub begun : (m : Message) → w.by_alarm ≡ true → initial_message (setup_of s v) w ≡ Some m
        → SendsAt (tick_at_offset (clocks v) w.after.zero (starting_offset s.profile w.slot)) (bytes_of m w.slot)
    pub beginnings : (x : Sending) → Contains (sendings_of air) x → x.node ≡ v → IsOfSlot s w x → counter_of_sending x ≡ 0 → IsSaid x
    pub relayed : (h : Sending) (f : FloodState) (q : List ℕ)
        → Contains (event_occasions (flood_at_first (setup_of s v) w.by_alarm w) has.events) (record { before = f; event = Heard h })
        → reply_to f h.packet ≡ Relay q → SendsAt (due (clocks v) (clocks v h.end + s.profile.turn)) q
    pub relays : (x : Sending) → Contains (sendings_of air) x → x.node ≡ v → IsOfSlot s w x → counter_of_sending x ≢ 0 → IsAnswer has.events x
    pub radio : IsTunedBy has.events
