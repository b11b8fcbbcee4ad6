-- What happened in a window, as the events of a flood at its node.
use Rattle.std.specs.Prelude.{◌≡◌, ◌↔◌, ℕ, List, Contains, map}
use Rattle.scenario_text.specs.ScenarioParts.{ScenarioParts}
use Rattle.radio_model.specs.declared.sending.Sending.{Sending}
use Rattle.air_log.specs.declared.entry.Entry.{Entry}
use Rattle.air_log.specs.Entries.{sendings_of, HasHeardEntry}
use Rattle.air_log.specs.NodeEvents.{Event, Heard, Ended, EventsInOrder, flood_after_events}
use Rattle.scenario_text.specs.Setups.{setup_of}
use Rattle.air_log.specs.WindowLogs.{WindowLog, Happening, HeardAt, SentAt}
use Rattle.law_windows.specs.WindowFloods.{flood_at_first}
use Rattle.law_windows.specs.WindowTimes.{IsOfSlot}

abbrev pub happening_of : Event → Happening
happening_of (Heard x) = HeardAt x.end x.packet
happening_of (Ended x) = SentAt x.end x.packet

-- its events: all receptions of its slot, and all own transmissions of it. The flood of the window is what they have made of it
pub record WindowHasEvents (s : ScenarioParts) (air : List Entry) (v : ℕ) (w : WindowLog) : Type 0 where
  pub events : List Event
  pub happened : map happening_of events ≡ w.happenings
  pub flood : w.last.flood ≡ flood_after_events (flood_at_first (setup_of s v) w.by_alarm w) events
  pub in_order : EventsInOrder events
  pub heard : (x : Sending) → Contains events (Heard x) ↔ (HasHeardEntry air v x × IsOfSlot s w x)
  pub ended : (x : Sending) → Contains events (Ended x) ↔ (Contains (sendings_of air) x × (x.node ≡ v) × IsOfSlot s w x)
