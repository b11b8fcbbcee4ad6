-- What is set at a node, and up to when nothing of it is due.
use Rattle.std.specs.Prelude.{◌≡◌, ℕ, ◌<◌, ◌≤◌, ◌⊎◌, List, Contains}
use Rattle.std.specs.Option.{IfSome}
use Rattle.scenario_text.specs.ScenarioParts.{ScenarioParts}
use Rattle.scenario_text.specs.declared.script.ScriptLine.{ScriptLine}
use Rattle.air_log.specs.Devices.{Device}
use Rattle.air_log.specs.Trails.{Reception, frame_start}

-- the alarm, the ordered transmission and the end of the transmission that runs are at tick t or later
pub record IsAhead (t : ℕ) (d : Device) : Type 0 where
  pub alarm : IfSome d.alarm (λ tick. t ≤ tick)
  pub ordered : IfSome d.ordered (λ o. t ≤ o.tick)
  pub sending : IfSome d.sending (λ x. t ≤ x.end)

-- from tick a on nothing is due before tick b: nothing that is set, no end of a reception, and no script line of v
pub record NextDue (s : ScenarioParts) (v : ℕ) (hs : List Reception) (a b : ℕ) (d : Device) : Type 0 where
  pub set : IsAhead b d
  pub hearings : (h : Reception) → Contains hs h → (h.end < a) ⊎ (b ≤ h.end)
  pub lines : (l : ScriptLine) → Contains s.script l → l.node ≡ v → (frame_start s l.frame < a) ⊎ (b ≤ frame_start s l.frame)
