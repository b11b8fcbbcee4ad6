-- The ticks at which a device was tuned to the channel of a rank.
use Rattle.std.specs.Prelude.{◌≡◌, ◌⊎◌, ℕ, ◌<◌, ◌≤◌, Contains, Some, None}
use Rattle.std.specs.declared.option.Option.{Option}
use Rattle.radio_model.specs.OnAir.{Tuning}
use Rattle.air_log.specs.Devices.{Device, Listening}

-- before the present tick the device was tuned to the channel at tick k
abbrev pub listened : ℕ → ℕ → Option Listening → Type 0
listened r k None = ⊥
listened r k (Some l) = (l.rank ≡ r) × (l.since ≤ k)

pub record CoversTick (r k : ℕ) (e : Tuning) : Type 0 where
  pub rank : e.rank ≡ r
  pub since : e.start ≤ k
  pub until : k < e.end

abbrev pub WasTuned : Device → ℕ → ℕ → Type 0
WasTuned d r k = ((e : Tuning) × Contains d.made.tuned e × CoversTick r k e) ⊎ listened r k d.listening
