-- A scenario over other lines than those of its own trace.
use Rattle.link_trace.specs.Passes.{Lines}
use Rattle.scenario_text.specs.ScenarioGrammar.{IsScenario}
use Rattle.scenario_text.specs.ScenarioParts.{ScenarioParts}

-- the scenario over these lines in place of its own trace
abbrev pub over : ScenarioParts → Lines → ScenarioParts
over s t = record s { trace = t }

-- over some lines it is a scenario, so all but its trace is a scenario's
abbrev pub IsOverScenario : ScenarioParts → Type 0
IsOverScenario s = (t : Lines) × IsScenario (over s t)
