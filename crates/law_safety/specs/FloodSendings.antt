-- What is known of each transmission: which packet began its flood, and how many steps it is after it.
use Rattle.std.specs.Prelude.{◌≡◌, ℕ, ◌+◌, ◌*◌, ◌<◌, ◌≤◌, List, Contains, length}
use Rattle.tick_clock.specs.Clocks.{Near}
use Rattle.lwb_base.specs.Profile.{airtime, step}
use Rattle.lwb_base.specs.declared.limits.TheConstants.{LAST_STEP}
use Rattle.time_reference.specs.Zeros.{tick_at_offset, starting_offset}
use Rattle.lwb_packets.specs.Body.{body}
use Rattle.scenario_text.specs.ScenarioParts.{ScenarioParts}
use Rattle.radio_model.specs.declared.sending.Sending.{Sending}
use Rattle.radio_model.specs.Hearing.{frame_of_sending, slot_of_sending, counter_of_sending}
use Rattle.air_log.specs.declared.entry.Entry.{Entry}
use Rattle.air_log.specs.Entries.{sendings_of}
use Rattle.air_log.specs.Safe.{SameSlot, sender_hosts}
use Rattle.law_safety.specs.Beginnings.{MayBegin}

module _ (s : ScenarioParts) (clocks : ℕ → ℕ → ℕ) (air : List Entry) where
  -- x begins a flood when and as it may, by the zero z of its sender
  pub record BeginsFlood (z : ℕ) (x : Sending) : Type 0 where
    pub sent : Contains (sendings_of air) x
    pub start : MayBegin s clocks air x.node x.rank (frame_of_sending s.profile x) z (slot_of_sending x) (sender_hosts s clocks air x) x.packet
    pub at : x.start ≡ tick_at_offset (clocks x.node) z (starting_offset s.profile (slot_of_sending x))

  -- x is of the flood that its origin begins, as many steps after it as its counter says
  pub record IsOfFlood (x : Sending) : Type 0 where
    pub hosted : x.rank < length s.hosts
    pub few : counter_of_sending x ≤ LAST_STEP
    pub some : 7 ≤ length x.packet
    pub most : length x.packet ≤ s.profile.packet_max
    pub lasts : x.end ≡ x.start + airtime s.profile (length x.packet)
    pub origin : Sending
    pub zero : ℕ
    pub begins : BeginsFlood zero origin
    pub slot : SameSlot s.profile x origin
    pub same : body x.packet ≡ body origin.packet
    pub itself : counter_of_sending x ≡ 0 → origin ≡ x
    pub near : Near x.start (origin.start + counter_of_sending x * step s.profile (length x.packet)) (counter_of_sending x)
