-- The frame that a node counts is the true one, or the next.
use Rattle.std.specs.Prelude.{◌≡◌, ⊤, ℕ, ◌+◌, ◌*◌, ◌/◌, ◌<◌, ◌≤◌, ◌⊎◌}
use Rattle.tick_clock.specs.Clocks.{due}
use Rattle.node_core.specs.declared.stage.Stage.{Stage}
use Rattle.node_core.specs.declared.stage.Stage.TheVariants.{Idle, Scanning, AwaitFrame, AwaitSlot, InWindow}
use Rattle.node_core.specs.Nodes.{Node}
use Rattle.scenario_text.specs.ScenarioParts.{ScenarioParts}
use Rattle.air_log.specs.Trails.{frame_start}

-- a place between rounds
abbrev pub IsResting : Stage → Type 0
IsResting Idle = ⊥
IsResting Scanning = ⊤
IsResting AwaitFrame = ⊤
IsResting (AwaitSlot j) = j ≡ 0
IsResting (InWindow j w) = ⊥

-- the tick of the alarm of frame f, by the clock of v
abbrev pub frame_alarm_at : ScenarioParts → (ℕ → ℕ → ℕ) → ℕ → ℕ → ℕ
frame_alarm_at s clocks v f = due (clocks v) (f * s.profile.frame + s.profile.end)

-- between rounds it has gone on to the next frame, the alarm of the true one being past
pub record IsOver (s : ScenarioParts) (clocks : ℕ → ℕ → ℕ) (v t : ℕ) (n : Node) : Type 0 where
  pub frame : n.frame ≡ t / s.profile.frame + 1
  pub past : frame_alarm_at s clocks v (t / s.profile.frame) ≤ t
  pub rests : IsResting n.stage

-- outside these places the node's frame has begun before tick t
abbrev pub BeganBy : ScenarioParts → ℕ → Node → Stage → Type 0
BeganBy s t n Idle = ⊥
BeganBy s t n Scanning = ⊤
BeganBy s t n AwaitFrame = ⊤
BeganBy s t n (AwaitSlot j) = (j ≡ 0) ⊎ (frame_start s n.frame < t)
BeganBy s t n (InWindow j w) = frame_start s n.frame < t

pub record InFrame (s : ScenarioParts) (clocks : ℕ → ℕ → ℕ) (v t : ℕ) (n : Node) : Type 0 where
  pub at : (n.frame ≡ t / s.profile.frame) ⊎ IsOver s clocks v t n
  pub began : BeganBy s t n n.stage
