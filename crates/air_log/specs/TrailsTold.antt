-- What a trail tells of its node: what it sent, when it was tuned, what it delivered, what it counts, and its tunes.
use Rattle.std.specs.Prelude.{ℕ, List, map}
use Rattle.std.specs.declared.option.Option.{Option}
use Rattle.std.specs.List.{range_with_len}
use Rattle.radio_model.specs.declared.sending.Sending.{Sending}
use Rattle.radio_model.specs.OnAir.{Tuning}
use Rattle.scenario_text.specs.ScenarioParts.{ScenarioParts}
use Rattle.bus_rules.specs.declared.delivery.Delivery.{Delivery}
use Rattle.bus_rules.specs.declared.tune.Tune.{Tune}
use Rattle.air_log.specs.Trails.{Reception, trail, tune_at}
use Rattle.air_log.specs.Charges.{windows_charge, scanned_frames}

-- transmissions and deliveries are in the order in which they were made, tunings with the last first; tunes has a place for
-- each frame
pub record TrailTold : Type 0 where
  pub sent : List Sending
  pub tuned : List Tuning
  pub deliveries : List Delivery
  pub windows : ℕ
  pub scanned : ℕ
  pub tunes : List (Option Tune)

abbrev pub trail_told : ScenarioParts → ℕ → (ℕ → ℕ) → List Reception → TrailTold
trail_told s v clock hs = record {
  sent = (trail s v clock hs).made.sent;
  tuned = (trail s v clock hs).made.tuned;
  deliveries = (trail s v clock hs).made.deliveries;
  windows = windows_charge s (trail s v clock hs);
  scanned = scanned_frames s v clock hs;
  tunes = map (tune_at s v clock hs) (range_with_len 0 s.frames);
}
