-- What is ordered in an open window, and what is being sent in it.
use Rattle.std.specs.Prelude.{◌≡◌, ℕ, ◌+◌, ◌<◌, ◌⊎◌, List, true, Some, slice_index, length}
use Rattle.tick_clock.specs.Clocks.{due}
use Rattle.lwb_base.specs.Profile.{airtime}
use Rattle.lwb_base.specs.declared.limits.TheConstants.{LAST_STEP}
use Rattle.time_reference.specs.Zeros.{starting_offset, closing_offset}
use Rattle.glossy_relay.specs.Relaying.{relay_of}
use Rattle.bus_rules.specs.Tuning.{hosts}
use Rattle.node_core.specs.Windows.{Window}
use Rattle.node_core.specs.Nodes.{Node}
use Rattle.scenario_text.specs.ScenarioParts.{ScenarioParts}
use Rattle.radio_model.specs.declared.sending.Sending.{Sending}
use Rattle.radio_model.specs.Hearing.{frame_of_sending, slot_of_sending, counter_of_sending}
use Rattle.air_log.specs.declared.entry.Entry.{Entry}
use Rattle.air_log.specs.Entries.{HasHeardEntry}
use Rattle.air_log.specs.Devices.{OrderedPacket}
use Rattle.law_safety.specs.Beginnings.{MayBegin}
use Rattle.law_safety.specs.SetAlarms.{rank_at, tick_by}

-- v received x in this slot of its round; its reception ended before the tick `told`
pub record HeardIn (s : ScenarioParts) (air : List Entry) (v told : ℕ) (n : Node) (j : ℕ) (x : Sending) : Type 0 where
  pub there : HasHeardEntry air v x
  pub rank : x.rank ≡ rank_at n
  pub frame : frame_of_sending s.profile x ≡ n.frame
  pub slot : slot_of_sending x ≡ j
  pub by : x.end < told

module _ (s : ScenarioParts) (clocks : ℕ → ℕ → ℕ) (air : List Entry) (v : ℕ) where
  -- the packet that the node begins its flood with
  pub record IsFirst (n : Node) (j : ℕ) (w : Window) (o : OrderedPacket) : Type 0 where
    pub initiated : w.flood.initiated ≡ true
    pub packet : w.flood.first ≡ Some o.packet
    pub at : o.tick ≡ tick_by s clocks v n (starting_offset s.profile j)
    pub start : MayBegin s clocks air v (rank_at n) n.frame n.zero j (hosts n.core.tune) o.packet

  -- the relay of one that it received
  pub record IsRelay (told : ℕ) (n : Node) (j : ℕ) (o : OrderedPacket) : Type 0 where
    pub heard : Sending
    pub in_slot : HeardIn s air v told n j heard
    pub few : counter_of_sending heard < LAST_STEP
    pub packet : o.packet ≡ relay_of heard.packet
    pub at : o.tick ≡ due (clocks v) (clocks v heard.end + s.profile.turn)

  -- it will be over before the window closes
  pub record HasOrder (told : ℕ) (n : Node) (j : ℕ) (w : Window) (o : OrderedPacket) : Type 0 where
    pub over : o.tick + airtime s.profile (length o.packet) < tick_by s clocks v n (closing_offset s.profile j)
    pub slot : slice_index o.packet 1 ≡ j
    pub why : IsFirst n j w o ⊎ IsRelay told n j o

  -- what is being sent ends before the window closes
  pub record HasSending (n : Node) (j : ℕ) (x : Sending) : Type 0 where
    pub rank : x.rank ≡ rank_at n
    pub slot : slot_of_sending x ≡ j
    pub over : x.end < tick_by s clocks v n (closing_offset s.profile j)
