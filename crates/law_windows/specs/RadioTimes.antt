-- How long the radio of a node was on between two ticks.
use Rattle.std.specs.Prelude.{ℕ, ◌-◌, List, min, max, sum_by}
use Rattle.radio_model.specs.OnAir.{Tuning}
use Rattle.air_log.specs.declared.entry.Entry.{Entry}
use Rattle.air_log.specs.Lawful.{tuned_by}

-- the part of a tuning that lies between them
abbrev pub time_within : ℕ → ℕ → Tuning → ℕ
time_within from until t = min t.end until - max t.start from

-- that of all Tuned entries of v
abbrev pub on_within : List Entry → ℕ → ℕ → ℕ → ℕ
on_within air v from until = sum_by (time_within from until) (tuned_by air v)
