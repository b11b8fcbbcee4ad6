-- What a scenario says.
use Rattle.std.specs.Prelude.{ℕ, List}
use Rattle.lwb_base.specs.Profile.{Numbers}
use Rattle.link_trace.specs.Passes.{Lines}
use Rattle.scenario_text.specs.declared.lines.NodeLine.{NodeLine}
use Rattle.scenario_text.specs.declared.lines.RateLine.{RateLine}
use Rattle.scenario_text.specs.declared.script.ScriptLine.{ScriptLine}

-- the profile, the number of frames, the most transmissions of a node, the nodes by id, their rates by node and tick, the hosts
-- by rank, the trace, and the script
pub record ScenarioParts : Type 0 where
  pub profile : Numbers
  pub frames : ℕ
  pub sends : ℕ
  pub nodes : List NodeLine
  pub rates : List RateLine
  pub hosts : List ℕ
  pub trace : Lines
  pub script : List ScriptLine
