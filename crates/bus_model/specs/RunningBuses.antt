-- The bus between two frames.
use Rattle.std.specs.Prelude.{◌≡◌, ℕ}
use Rattle.scenario_text.specs.ScenarioParts.{ScenarioParts}
use Rattle.bus_terms.specs.Bus.{before_frame}
use Rattle.bus_model.specs.FrameNodes.{CountsLinesBefore, HavePower, IsAtFrame, puts_to}
use Rattle.bus_model.specs.declared.running_bus.RunningBus.{RunningBus}

-- before frame f
pub record IsBeforeFrame (s : ScenarioParts) (f : ℕ) (b : RunningBus) : Type 0 where
  pub at : IsAtFrame s f b.net
  pub cut : CountsLinesBefore s.script f b.told
  pub have : HavePower s (before_frame s f) b.told
  pub put : b.puts.items ≡ puts_to s b.told
