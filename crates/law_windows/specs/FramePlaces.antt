-- Where nodes are as a frame begins, and that ids of no node have no windows.
use Rattle.std.specs.Prelude.{◌≡◌, ℕ, ◌<◌, List, Contains, true, false, None}
use Rattle.node_core.specs.Nodes.{Node}
use Rattle.node_core.specs.Rows.{stage_for}
use Rattle.scenario_text.specs.ScenarioParts.{ScenarioParts}
use Rattle.scenario_text.specs.FloodParts.{knows}
use Rattle.air_log.specs.declared.entry.Entry.{Entry}
use Rattle.air_log.specs.Devices.{PowerOn}
use Rattle.air_log.specs.Lawful.{trail_in}
use Rattle.air_log.specs.WindowLogs.{WindowLog}
use Rattle.law_terms.specs.FrameCourses.{power_at}
use Rattle.law_terms.specs.LawfulRuns.{IsLawfulRun}

-- its place is by its tune: it scans, awaits slot 0 of the round that is due in this frame, or waits for a later one; and it
-- is not fresh
pub record StandsByTune (n : Node) : Type 0 where
  pub place : n.stage ≡ stage_for n.core.tune n.frame
  pub fresh : n.core.own_slot ≡ None

-- after the script lines of each frame a node that is on does so
abbrev pub PlacesLaw : Type 0
PlacesLaw = (s : ScenarioParts) (clocks : ℕ → ℕ → ℕ) (air : List Entry) → IsLawfulRun s clocks air
    → (v f : ℕ) → knows s.nodes v ≡ true → f < s.frames → (n : Node) → power_at s clocks air v f ≡ PowerOn n → StandsByTune n

abbrev pub StrangersLaw : Type 0
StrangersLaw = (s : ScenarioParts) (clocks : ℕ → ℕ → ℕ) (air : List Entry) → IsLawfulRun s clocks air
    → (v : ℕ) → knows s.nodes v ≡ false → (w : WindowLog) → Contains (trail_in s clocks air v).made.windows w → ⊥
