-- What the radio of each node costs in a run.
use Rattle.std.specs.Prelude.{ℕ, ◌-◌, List, sum_by}
use Rattle.radio_model.specs.declared.sending.Sending.{Sending}
use Rattle.radio_model.specs.OnAir.{Tuning}
use Rattle.scenario_text.specs.ScenarioParts.{ScenarioParts}
use Rattle.air_log.specs.declared.entry.Entry.{Entry}
use Rattle.air_log.specs.Lawful.{heard_by, sent_by, tuned_by, trail_in}
use Rattle.air_log.specs.Charges.{windows_charge, scanned_frames}
use Rattle.air_log.specs.declared.energy.Energy.{Energy}

-- how long it lasts, in ticks of 1/64 µs
abbrev pub sending_time : Sending → ℕ
sending_time x = x.end - x.start

abbrev pub tuning_time : Tuning → ℕ
tuning_time t = t.end - t.start

-- of node v in the log `air` of a run over these clocks: its Sent entries, what the windows of its trail count, the frames
-- at whose start it scans, and its Tuned entries
abbrev pub energy_of : ScenarioParts → (ℕ → ℕ → ℕ) → List Entry → ℕ → Energy
energy_of s clocks air v = record {
  sent = sum_by sending_time (sent_by air v);
  windows = windows_charge s (trail_in s clocks air v);
  scanned = scanned_frames s v (clocks v) (heard_by air v);
  on = sum_by tuning_time (tuned_by air v);
}

-- these numbers, in their order
abbrev pub costs : ℕ → ℕ → ℕ → ℕ → Energy
costs sent windows scanned on = record { sent = sent; windows = windows; scanned = scanned; on = on }
