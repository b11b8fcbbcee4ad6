-- Transmissions and the windows of their slot.
use Rattle.std.specs.Prelude.{◌≡◌, ℕ, ◌<◌, ◌≤◌, List, Contains, true}
use Rattle.scenario_text.specs.ScenarioParts.{ScenarioParts}
use Rattle.radio_model.specs.declared.sending.Sending.{Sending}
use Rattle.radio_model.specs.Hearing.{frame_of_sending, slot_of_sending}
use Rattle.air_log.specs.declared.entry.Entry.{Entry}
use Rattle.air_log.specs.Entries.{sendings_of}
use Rattle.air_log.specs.WindowLogs.{WindowLog}
use Rattle.law_windows.specs.WindowTimes.{IsOfSlot, closing_of}

module _ (s : ScenarioParts) (clocks : ℕ → ℕ → ℕ) (air : List Entry) (v : ℕ) (w : WindowLog) where
  -- what is sent on the channel and in the frame of a window, and ends while it is open, is of its slot
  abbrev pub EndsInSlot : Type 0
  EndsInSlot = (x : Sending) → Contains (sendings_of air) x → x.rank ≡ w.rank → frame_of_sending s.profile x ≡ w.frame
      → w.opened ≤ x.end → x.end ≤ closing_of s clocks air v w → slot_of_sending x ≡ w.slot

  -- what is sent in its slot ends before the window closes, and starts after it has opened by its alarm
  abbrev pub LiesInWindow : Type 0
  LiesInWindow = (x : Sending) → Contains (sendings_of air) x → IsOfSlot s w x
      → (x.end < closing_of s clocks air v w) × (w.by_alarm ≡ true → w.opened < x.start)
