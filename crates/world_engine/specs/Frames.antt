-- How far a run has come in its script and in its queue.
use Rattle.std.specs.Prelude.{◌≡◌, ℕ, ◌+◌, ◌*◌, ◌<◌, ◌≤◌, List, ◌∷◌, ◌++◌, filter, length, nat_lt}
use Rattle.event_calendar.specs.declared.class.Class.{Class}
use Rattle.event_calendar.specs.Orders.{Due, Order, Stands, rank}
use Rattle.scenario_text.specs.ScenarioParts.{ScenarioParts}
use Rattle.scenario_text.specs.declared.script.ScriptLine.{ScriptLine}
use Rattle.scenario_text.specs.AddedLines.{frame_of_line}
use Rattle.air_log.specs.Courses.{IsSplitByKey}
use Rattle.air_log.specs.Trails.{frame_start}

-- the lines of the script of frames before f
abbrev pub told_before : ScenarioParts → ℕ → List ScriptLine
told_before s f = filter (λ l. nat_lt l.frame f) s.script

-- the first k lines of the script are those of frames before f
pub record CountsScriptLinesBefore (s : ScenarioParts) (k f : ℕ) : Type 0 where
  pub within : k ≤ length s.script
  pub cut : IsSplitByKey frame_of_line s.script k f

-- the line is after these lines of the script, and is given at tick t
pub record IsNextLine (s : ScenarioParts) (t : ℕ) (told : List ScriptLine) (l : ScriptLine) : Type 0 where
  pub rest : List ScriptLine
  pub is : s.script ≡ told ++ l ∷ rest
  pub now : frame_start s l.frame ≡ t

-- orders by one number: by tick, then class, then place
abbrev pub order_key : ℕ → Class → ℕ → ℕ
order_key t c p = (t * 3 + rank c) * 64 + p

-- all that is comes later than what was at tick t, of this class, at this place
abbrev pub AllComeLater : ℕ → Class → ℕ → List Due → Type 0
AllComeLater t c p due = (y : Order) → Stands due y → order_key t c p < order_key y.0 y.1 y.2
