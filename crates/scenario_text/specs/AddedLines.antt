-- A scenario with more lines in its script.
use Rattle.std.specs.Prelude.{◌≡◌, ℕ, ◌≤◌, List, ◌++◌, Bool, false, ◌==◌, AllPairs, slice_index, slice_index_or}
use Rattle.std.specs.List.{filter}
use Rattle.lwb_base.specs.declared.limits.TheConstants.{MOST_BOOTS, MOST_SCRIPT_LINES}
use Rattle.scenario_text.specs.PartsInOrder.{script_lines}
use Rattle.scenario_text.specs.ScenarioFacts.{turned}
use Rattle.scenario_text.specs.ScenarioParts.{ScenarioParts}
use Rattle.scenario_text.specs.declared.script.ScriptLine.{ScriptLine}

abbrev pub frame_of_line : ScriptLine → ℕ
frame_of_line l = l.frame

-- the lines of a frame, in their order
abbrev pub in_frame : ℕ → List ScriptLine → List ScriptLine
in_frame f ls = filter (λ l. l.frame == f) ls

-- the frames ascend, and those of each frame are its old lines and then its added ones
pub record IsMerged (old added all : List ScriptLine) : Type 0 where
  pub ascends : AllPairs (λ a b. a.frame ≤ b.frame) all
  pub of_frame : (f : ℕ) → in_frame f all ≡ in_frame f old ++ in_frame f added

-- t is s with these lines added to its script
pub record IsWithScript (s : ScenarioParts) (added : List ScriptLine) (t : ScenarioParts) : Type 0 where
  pub parts : t ≡ record s { script = t.script }
  pub script : IsMerged s.script added t.script

-- no line is rejected as one too many: no node boots more often than it may, and there are no more script lines of all kinds
-- than a run with a log may have
pub record HasRoom (s : ScenarioParts) : Type 0 where
  pub lines : script_lines s ≤ MOST_SCRIPT_LINES
  pub boots : (v : ℕ) → (turned v (false, 0) s.script).1 ≤ MOST_BOOTS

-- Internal: whether a node is on, and how often it booted, by lists over the ids of all nodes
abbrev pub boots_so_far : List Bool → List ℕ → ℕ → Bool × ℕ
boots_so_far on counts v = (slice_index_or on v false, slice_index counts v)
