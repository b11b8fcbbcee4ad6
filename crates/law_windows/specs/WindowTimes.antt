-- When the windows of a node open and close.
use Rattle.std.specs.Prelude.{◌≡◌, ℕ, ◌/◌, ◌<◌, ◌≤◌, ◌⊎◌, List, Bool, true, false, length}
use Rattle.time_reference.specs.Budgets.{budget_of}
use Rattle.time_reference.specs.Zeros.{tick_at_offset, opening_offset, closing_offset}
use Rattle.scenario_text.specs.ScenarioParts.{ScenarioParts}
use Rattle.radio_model.specs.declared.sending.Sending.{Sending}
use Rattle.radio_model.specs.Hearing.{frame_of_sending, slot_of_sending}
use Rattle.air_log.specs.declared.entry.Entry.{Entry}
use Rattle.air_log.specs.Entries.{HasHeardEntry}
use Rattle.air_log.specs.WindowLogs.{WindowLog, Closing}
use Rattle.air_log.specs.Trails.{frame_start}
use Rattle.law_safety.specs.RoundZeros.{RefFor, GoodFor}
use Rattle.law_safety.specs.SetAlarms.{OpensLate, tick_by}

-- a transmission is of the slot of a window
pub record IsOfSlot (s : ScenarioParts) (w : WindowLog) (x : Sending) : Type 0 where
  pub channel : x.rank ≡ w.rank
  pub frame : frame_of_sending s.profile x ≡ w.frame
  pub slot : slot_of_sending x ≡ w.slot

module _ (s : ScenarioParts) (clocks : ℕ → ℕ → ℕ) (air : List Entry) (v : ℕ) where
  -- by its alarm a window opens where the node's clock comes to the opening of the slot, or late, as the window before
  -- closes; the zero is good from then on
  pub record OpensInSlot (w : WindowLog) : Type 0 where
    pub good : GoodFor s clocks w.rank v w.after.zero w.frame (opening_offset s.profile w.slot)
    pub zero : w.before.zero ≡ w.after.zero
    pub at : (w.opened ≡ tick_by s clocks v w.before (opening_offset s.profile w.slot)) ⊎ OpensLate s clocks v w.before w.slot w.opened

  -- a scanning node's opens at the end of a schedule of the slot that it received, with a zero by it
  pub record OpensAfter (w : WindowLog) : Type 0 where
    pub ref : RefFor s clocks w.rank v w.after.zero w.frame w.frame w.slot
    pub heard : Sending
    pub there : HasHeardEntry air v heard
    pub of_slot : IsOfSlot s w heard
    pub end : heard.end ≡ w.opened

  abbrev pub OpensInTime : Bool → WindowLog → Type 0
  OpensInTime true w = OpensInSlot w
  OpensInTime false w = OpensAfter w

  -- where the node's clock comes to the closing of the slot, by the zero with which the window opened
  abbrev pub closing_of : WindowLog → ℕ
  closing_of w = tick_at_offset (clocks v) w.after.zero (closing_offset s.profile w.slot)

  -- it opens in its frame, and before its closing
  pub record IsInTime (w : WindowLog) : Type 0 where
    pub hosted : w.rank < length s.hosts
    pub in_round : w.slot ≤ (budget_of s.profile).last
    pub began : frame_start s w.frame < w.opened
    pub frame : w.opened / s.profile.frame ≡ w.frame
    pub by : OpensInTime w.by_alarm w
    pub early : w.opened < closing_of w

  -- and closes then
  abbrev pub ClosesInTime : WindowLog → Closing → Type 0
  ClosesInTime w c = c.tick ≡ closing_of w
