-- Clocks that gain or lose all of the greatest drift as soon as the drift law allows.
use Rattle.std.specs.Prelude.{ℕ, ◌+◌, ◌-◌, ◌*◌, ◌/◌, Bool, if◌then◌else◌}
use Rattle.lwb_base.specs.declared.limits.TheConstants.{DRIFT_BOUND}

-- DRIFT_BOUND millionths of t ticks, rounded up
abbrev pub jumped : ℕ → ℕ
jumped t = (DRIFT_BOUND * t + 999999) / 1000000

abbrev pub jump_reading : ℕ → Bool → ℕ → ℕ
jump_reading offset fast t = if fast then offset + t + jumped t else offset + t - jumped t
