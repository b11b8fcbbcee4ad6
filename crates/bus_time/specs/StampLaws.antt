-- Laws of the data that nodes send, and of its stamps.
use Rattle.std.specs.Prelude.{◌≡◌, ◌↔◌, ℕ, List, Contains, true, Some, IsPermutation}
use Rattle.bus_rules.specs.Slots.{Data, DataOf}
use Rattle.lwb_member.specs.Said.{message_of}
use Rattle.radio_model.specs.declared.sending.Sending.{Sending}
use Rattle.radio_model.specs.Hearing.{counter_of_sending}
use Rattle.scenario_text.specs.ScenarioParts.{ScenarioParts}
use Rattle.air_log.specs.declared.entry.Entry.{Entry}
use Rattle.air_log.specs.Entries.{sendings_of}
use Rattle.air_log.specs.Lawful.{Lawful}
use Rattle.air_log.specs.Safe.{sender_hosts}
use Rattle.law_safety.specs.Invariant.{IsDrivenWell}
use Rattle.law_safety.specs.SentPlans.{IsHostOf}
use Rattle.bus_time.specs.Stamps.{AreStamps}
use Rattle.bus_time.specs.declared.stamp.Stamp.{Stamp}

-- x begins the flood of a data packet
pub record BeginsData (air : List Entry) (x : Sending) : Type 0 where
  pub there : Contains (sendings_of air) x
  pub first : counter_of_sending x ≡ 0
  pub data_ : Data
  pub says : message_of x.packet ≡ Some (DataOf data_)

-- who begins the flood of a data packet hosts, by its trail, if and only if the scenario names it as host of the channel
abbrev pub DataHostsLaw : Type 0
DataHostsLaw =
    (s : ScenarioParts) (clocks : ℕ → ℕ → ℕ) (air : List Entry) → IsDrivenWell s clocks → Lawful s clocks air
    → (x : Sending) → BeginsData air x → (sender_hosts s clocks air x ≡ true) ↔ IsHostOf s x.rank x.node

-- two valid logs with the same entries, each as often, have one list of stamps
abbrev pub OneListLaw : Type 0
OneListLaw =
    (s : ScenarioParts) (clocks : ℕ → ℕ → ℕ) (a b : List Entry) → IsDrivenWell s clocks → Lawful s clocks a → Lawful s clocks b → IsPermutation a b
    → (k l : List Stamp) → AreStamps s clocks a k → AreStamps s clocks b l → k ≡ l
