-- The drift of a clock over this many ticks, apart from the rounding of its readings.
use Rattle.std.specs.Prelude.{ℕ, ◌/◌}
use Rattle.lwb_base.specs.declared.limits.TheConstants.{DRIFT_PERIOD}

abbrev pub drift : ℕ → ℕ
drift d = d / DRIFT_PERIOD
