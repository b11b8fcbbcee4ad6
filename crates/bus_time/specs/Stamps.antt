-- When each data packet was initiated, in the time of the host that planned its round, by what the sender itself had received.
use Rattle.std.specs.Prelude.{◌≡◌, ◌⊎◌, ℕ, ◌+◌, ◌-◌, ◌*◌, ◌<◌, ◌≤◌, List, Bool, true, false, ◌&&◌, ◌==◌, Some, filter}
use Rattle.std.specs.List.{AllZip}
use Rattle.std.specs.Ordering.{nat_cmp, ordering_then, is_lt}
use Rattle.lwb_base.specs.Profile.{Numbers}
use Rattle.lwb_base.specs.Messages.{Schedule}
use Rattle.lwb_packets.specs.DataPackets.{is_data}
use Rattle.time_reference.specs.Reference.{host_zero}
use Rattle.bus_rules.specs.Slots.{ScheduleOf}
use Rattle.lwb_member.specs.Said.{message_of, data_in}
use Rattle.node_core.specs.Nodes.{zero_from}
use Rattle.radio_model.specs.declared.sending.Sending.{Sending}
use Rattle.radio_model.specs.Hearing.{frame_of_sending, slot_of_sending, counter_of_sending}
use Rattle.scenario_text.specs.ScenarioParts.{ScenarioParts}
use Rattle.air_log.specs.declared.entry.Entry.{Entry}
use Rattle.air_log.specs.Entries.{sendings_of, HasHeardEntry}
use Rattle.lwb_base.specs.Sorting.{in_order}
use Rattle.air_log.specs.Safe.{sender_hosts}
use Rattle.bus_time.specs.declared.stamp.Stamp.{Stamp}

-- the transmissions of data with counter 0, by frame, rank and slot
abbrev pub begins_data : Sending → Bool
begins_data x = (counter_of_sending x == 0) && is_data x.packet

abbrev pub comes_first : Numbers → Sending → Sending → Bool
comes_first p x y =
    is_lt (ordering_then (ordering_then (nat_cmp (frame_of_sending p x) (frame_of_sending p y)) (nat_cmp x.rank y.rank))
    (nat_cmp (slot_of_sending x) (slot_of_sending y)))

abbrev pub stamped : Numbers → List Entry → List Sending
stamped p air = in_order (comes_first p) (filter begins_data (sendings_of air))

-- the first by end of those of which P holds
pub record IsFirstByEnd (P : Sending → Type 0) (h : Sending) : Type 0 where
  pub is : P h
  pub first : (k : Sending) → P k → h.end ≤ k.end

module _ (s : ScenarioParts) (air : List Entry) (x : Sending) where
  -- the sender of x received h, a schedule on the channel of x with this gap
  pub record IsScheduleHeard (gap : ℕ) (h : Sending) : Type 0 where
    pub there : HasHeardEntry air x.node h
    pub channel : h.rank ≡ x.rank
    pub schedule : Schedule
    pub says : message_of h.packet ≡ Some (ScheduleOf schedule)
    pub gap_is : schedule.gap ≡ gap

  -- in the frame of x, and h ended before x starts
  pub record IsOfFrame (h : Sending) : Type 0 where
    pub gap : ℕ
    pub heard : IsScheduleHeard gap h
    pub frame : frame_of_sending s.profile h ≡ frame_of_sending s.profile x
    pub over : h.end < x.start

  -- d frames before, with the gap d
  pub record IsAhead (d : ℕ) (h : Sending) : Type 0 where
    pub heard : IsScheduleHeard d h
    pub some : 1 ≤ d
    pub frame : frame_of_sending s.profile h + d ≡ frame_of_sending s.profile x

  -- h is the first of the frame of x, and d is 0; or there is none, and h is the first of the latest frame, d frames before
  pub record IsReference (d : ℕ) (h : Sending) : Type 0 where
    pub by : ((d ≡ 0) × IsFirstByEnd IsOfFrame h)
        ⊎ (((k : Sending) → IsOfFrame k → ⊥) × IsFirstByEnd (IsAhead d) h × ((e : ℕ) (k : Sending) → IsAhead e k → d ≤ e))

  -- the start of x by the sender's clock, read from the zero of the round that h gives
  abbrev pub tick_by : (ℕ → ℕ → ℕ) → ℕ → Sending → ℕ
  tick_by clocks d h =
      host_zero s.profile (frame_of_sending s.profile x) + clocks x.node x.start
      - (zero_from s.profile (clocks x.node h.end) h.packet + d * s.profile.frame)

  pub record HasReference (clocks : ℕ → ℕ → ℕ) (tick : ℕ) : Type 0 where
    pub ahead : ℕ
    pub heard : Sending
    pub reference : IsReference ahead heard
    pub is : tick ≡ tick_by clocks ahead heard

  -- a host by its trail takes its own clock
  pub record IsTick (clocks : ℕ → ℕ → ℕ) (tick : ℕ) : Type 0 where
    pub host : sender_hosts s clocks air x ≡ true → tick ≡ clocks x.node x.start
    pub other : sender_hosts s clocks air x ≡ false → HasReference clocks tick

-- what the stamp of x says
pub record IsStamp (s : ScenarioParts) (clocks : ℕ → ℕ → ℕ) (air : List Entry) (x : Sending) (stamp : Stamp) : Type 0 where
  pub frame : stamp.frame ≡ frame_of_sending s.profile x
  pub rank : stamp.rank ≡ x.rank
  pub slot : stamp.slot ≡ slot_of_sending x
  pub node : stamp.node ≡ x.node
  pub stream : stamp.stream ≡ (data_in x.packet).stream
  pub seq : stamp.seq ≡ (data_in x.packet).seq
  pub tick : IsTick s air x clocks stamp.tick

-- a stamp for each
abbrev pub AreStamps : ScenarioParts → (ℕ → ℕ → ℕ) → List Entry → List Stamp → Type 0
AreStamps s clocks air stamps = AllZip (IsStamp s clocks air) (stamped s.profile air) stamps
