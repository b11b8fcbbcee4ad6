-- What a node sends in a window: what it says there, and the relays of what it received.
use Rattle.std.specs.Prelude.{◌≡◌, ℕ, ◌+◌, ◌⊎◌, List, ◌∷◌, ◌++◌, true, Some, None, Contains, fold}
use Rattle.std.specs.declared.option.Option.{Option}
use Rattle.std.specs.Option.{IfSome}
use Rattle.tick_clock.specs.Clocks.{due}
use Rattle.time_reference.specs.Zeros.{tick_at_offset, starting_offset}
use Rattle.glossy_relay.specs.Relaying.{reply_to}
use Rattle.glossy_relay.specs.declared.flood.Reply.TheVariants.{Relay}
use Rattle.bus_rules.specs.Slots.{Message}
use Rattle.lwb_member.specs.Said.{bytes_of}
use Rattle.scenario_text.specs.ScenarioParts.{ScenarioParts}
use Rattle.radio_model.specs.declared.sending.Sending.{Sending}
use Rattle.air_log.specs.Devices.{OrderedPacket}
use Rattle.scenario_text.specs.Setups.{setup_of}
use Rattle.air_log.specs.WindowLogs.{WindowLog, Happening, HeardAt, SentAt}
use Rattle.law_windows.specs.WindowFloods.{initial_message, flood_at_first, after_happening}
use Rattle.law_windows.specs.WindowTimes.{IsOfSlot}

module _ (s : ScenarioParts) (clocks : ℕ → ℕ → ℕ) (v : ℕ) where
  module _ (w : WindowLog) (tick : ℕ) (packet : List ℕ) where
    -- the node begins the flood with what it says, where its clock comes to the start of the slot
    pub record BeginsIn : Type 0 where
      pub by_alarm : w.by_alarm ≡ true
      pub message : Message
      pub said : initial_message (setup_of s v) w ≡ Some message
      pub packet_is : packet ≡ bytes_of message w.slot
      pub at : tick ≡ tick_at_offset (clocks v) w.after.zero (starting_offset s.profile w.slot)

    -- the flood answers what was received with a relay, a turnaround after it
    pub record RelaysIn : Type 0 where
      pub earlier : List Happening
      pub until : ℕ
      pub heard : List ℕ
      pub later : List Happening
      pub is : w.happenings ≡ earlier ++ HeardAt until heard ∷ later
      pub answer : reply_to (fold after_happening (flood_at_first (setup_of s v) w.by_alarm w) earlier) heard ≡ Relay packet
      pub at : tick ≡ due (clocks v) (clocks v until + s.profile.turn)

    -- the window calls for this packet at this tick
    abbrev pub CallsFor : Type 0
    CallsFor = BeginsIn ⊎ RelaysIn

  -- a transmission was called for by a window of its slot
  pub record IsCalled (logs : List WindowLog) (x : Sending) : Type 0 where
    pub window : WindowLog
    pub there : Contains logs window
    pub of_slot : IsOfSlot s window x
    pub call : CallsFor window x.start x.packet

  -- and its end is kept there
  pub record HasEnded (logs : List WindowLog) (x : Sending) : Type 0 where
    pub window : WindowLog
    pub there : Contains logs window
    pub of_slot : IsOfSlot s window x
    pub event : Contains window.happenings (SentAt x.end x.packet)

  -- the open window called for what is ordered
  pub record IsOrderedIn (logs : List WindowLog) (o : OrderedPacket) : Type 0 where
    pub window : WindowLog
    pub there : Contains logs window
    pub open_ : window.closed ≡ None
    pub call : CallsFor window o.tick o.packet

  -- a call was answered
  pub record IsSent (sent : List Sending) (w : WindowLog) (tick : ℕ) (packet : List ℕ) : Type 0 where
    pub sending : Sending
    pub there : Contains sent sending
    pub of_slot : IsOfSlot s w sending
    pub start : sending.start ≡ tick
    pub packet_is : sending.packet ≡ packet

  -- or will be, while the window is open
  pub record IsStillOrdered (ordered : Option OrderedPacket) (w : WindowLog) (tick : ℕ) (packet : List ℕ) : Type 0 where
    pub open_ : w.closed ≡ None
    pub is : ordered ≡ Some (record { tick = tick; packet = packet })

  -- a node with these windows sends what they call for, and nothing else
  pub record SendsAsCalled (logs : List WindowLog) (ordered : Option OrderedPacket) (sending : Option Sending) (sent : List Sending) : Type 0 where
    pub called : (x : Sending) → Contains sent x → IsCalled logs x
    pub answered : (w : WindowLog) (tick : ℕ) (packet : List ℕ) → Contains logs w → CallsFor w tick packet
        → IsSent sent w tick packet ⊎ IsStillOrdered ordered w tick packet
    pub ordered_for : IfSome ordered (IsOrderedIn logs)
    pub ended : (x : Sending) → Contains sent x → (sending ≡ Some x) ⊎ HasEnded logs x
