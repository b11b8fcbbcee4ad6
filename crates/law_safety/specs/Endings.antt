-- A run at whose end the invariant holds.
use Rattle.std.specs.Prelude.{ℕ, List}
use Rattle.scenario_text.specs.ScenarioParts.{ScenarioParts}
use Rattle.air_log.specs.declared.entry.Entry.{Entry}
use Rattle.air_log.specs.Safe.{Safe}
use Rattle.air_log.specs.Trails.{run_end}
use Rattle.law_safety.specs.Invariant.{Invariant, IsObedientRun}

pub record EndsInOrder (s : ScenarioParts) (clocks : ℕ → ℕ → ℕ) (air : List Entry) : Type 0 where
  pub run : IsObedientRun s clocks air
  pub ends : Invariant s clocks air (run_end s)

-- its log is safe
abbrev pub LogsInOrderAreSafe : Type 0
LogsInOrderAreSafe =
    (s : ScenarioParts) (clocks : ℕ → ℕ → ℕ) (air : List Entry) → EndsInOrder s clocks air → Safe s clocks air
