-- What the windows of a device count so far, through an event.
use Rattle.std.proofs.Common.{◌≡◌, ℕ, ◌≤◌, ◌^◌, Option, Some, None}
use Rattle.lwb_base.specs.Profile.{Numbers}
use Rattle.lwb_base.specs.declared.event.Event.{Event}
use Rattle.radio_model.specs.declared.sending.Sending.{Sending}
use Rattle.bus_rules.specs.Cores.{Setup}
use Rattle.node_core.specs.Nodes.{Node}
use Rattle.node_core.specs.Rows.{Stepped}
use Rattle.air_log.specs.Devices.{Made, Power, PowerOff, PowerOn}
use Rattle.air_log.specs.DeviceStates.{DeviceState, row_at, state_after_row, made_by}
use Rattle.air_log.specs.WindowLogs.{is_alarm}
use Rattle.air_log.specs.WindowSums.{WindowSum, IsCounted, power_has_window, sent_with, noted}
use Rattle.air_log.proofs.CountedWindows.{after_event}

module _ (clock : ℕ → ℕ) (t : ℕ) (e : Event) (ended : Option Sending) (state : DeviceState) (p : Numbers) (n : ℕ) (few : n ≤ 4) (x : WindowSum) where
  counted_by_row : (m : Node) (r : Option Stepped) (made : Made) → state.power ≡ PowerOn m → IsCounted p n made.windows x
      → (noted (power_has_window state.power) (power_has_window (state_after_row state r).power) (is_alarm e) (sent_with e ended) x).last ≤ 2 ^ 28
      → IsCounted p n (made_by t e ended (PowerOn m) r made).windows
      (noted (power_has_window state.power) (power_has_window (state_after_row state r).power) (is_alarm e) (sent_with e ended) x)
  counted_by_row m None made at is less = rw at (after_event p n few t e ended m m m.stage m.stage made.windows x is (rw at at less))
  counted_by_row m (Some r) made at is less = rw at (after_event p n few t e ended m r.node m.stage r.node.stage made.windows x is (rw at at less))

  pub counted_then : (s : Setup) (power : Power) (made : Made) → state.power ≡ power → IsCounted p n made.windows x
      → (noted (power_has_window state.power) (power_has_window (state_after_row state (row_at clock t e s power)).power) (is_alarm e) (sent_with e ended)
      x).last ≤ 2 ^ 28
      → IsCounted p n (made_by t e ended power (row_at clock t e s power) made).windows
      (noted (power_has_window state.power) (power_has_window (state_after_row state (row_at clock t e s power)).power) (is_alarm e) (sent_with e ended) x)
  counted_then s (PowerOff boots) made at is less = rw at is
  counted_then s (PowerOn m) made at is less = counted_by_row m (row_at clock t e s (PowerOn m)) made at is less
