-- Internal: the transmissions of a log by start, for a search.
use Rattle.std.specs.Prelude.{◌≡◌, List, map}
use Rattle.radio_model.specs.Reaches.{AreSearchable, HoldSame}
use Rattle.scenario_text.specs.ScenarioGrammar.{IsScenario}
use Rattle.scenario_text.specs.ScenarioParts.{ScenarioParts}
use Rattle.air_log.specs.declared.entry.Entry.{Entry}
use Rattle.air_log.specs.Entries.{sendings_of}
use Rattle.host_return.specs.declared.transmissions.Search.{Search}

-- they are those of the log
abbrev pub AreSent : List Entry → Search → Type 0
AreSent air t = HoldSame (sendings_of air) t.sent.sent

-- the nodes are those of the scenario, and the transmissions are in order over its trace
pub record IsSearchable (s : ScenarioParts) (t : Search) : Type 0 where
  pub said : IsScenario s
  pub ids : t.nodes.items ≡ map (λ n. n.node) s.nodes
  pub sent : AreSearchable s.profile s.trace t.nodes.items t.sent
