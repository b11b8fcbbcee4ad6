-- What is true of a scenario over other lines than those of its own trace.
use Rattle.std.proofs.Common.{◌≡◌, subst}
use Rattle.link_trace.specs.Passes.{Lines}
use Rattle.scenario_text.specs.OverLines.{over, IsOverScenario}
use Rattle.scenario_text.specs.ScenarioFacts.{IsSoundScenario}
use Rattle.scenario_text.specs.ScenarioGrammar.{IsScenario}
use Rattle.scenario_text.specs.ScenarioParts.{ScenarioParts}
use Rattle.scenario_text.proofs.SoundScenarios.{sound}

pub over_sound : (s : ScenarioParts) → IsOverScenario s → IsSoundScenario s
over_sound s is =
    let all = sound (over s is.0) is.1 in
    record {
      profile = all.profile;
      some_frames = all.some_frames;
      few_frames = all.few_frames;
      some_sends = all.some_sends;
      few_sends = all.few_sends;
      two_nodes = all.two_nodes;
      few_nodes = all.few_nodes;
      node_frames = all.node_frames;
      ids = all.ids;
      ascending = all.ascending;
      offsets = all.offsets;
      rates_known = all.rates_known;
      rates_ascend = all.rates_ascend;
      rates_in_run = all.rates_in_run;
      rates_early = all.rates_early;
      rates_small = all.rates_small;
      some_hosts = all.some_hosts;
      few_hosts = all.few_hosts;
      hosts_known = all.hosts_known;
      hosts_differ = all.hosts_differ;
      script = λ k d within. let l = all.script k d within in record { in_run = l.in_run; known = l.known; act = l.act };
      script_ascends = all.script_ascends;
      few_boots = all.few_boots;
    }

-- over its own lines a scenario is itself
pub over_own_lines : (s : ScenarioParts) → IsScenario s → IsOverScenario s
over_own_lines s said = (s.trace, said)

-- its own trace makes it a scenario again
pub over_scenario : (scenario s : ScenarioParts) (t : Lines) → over scenario t ≡ s → IsScenario scenario → IsOverScenario s
over_scenario scenario s t is said = subst IsOverScenario is (scenario.trace, said)
