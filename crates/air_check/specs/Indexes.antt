-- The transmissions and tunings of a log, in orders in which they are searched.
use Rattle.std.specs.Prelude.{◌≡◌, List, AllPairs, Contains, map}
use Rattle.radio_model.specs.Hearing.{Before}
use Rattle.radio_model.specs.OnAir.{Sending}
use Rattle.air_log.specs.declared.entry.Entry.{Entry}
use Rattle.scenario_text.specs.ScenarioParts.{ScenarioParts}
use Rattle.air_log.specs.Entries.{sendings_of, tunings_of}
use Rattle.scenario_text.specs.ScenarioGrammar.{IsScenario}
use Rattle.air_check.specs.ReceiverMasks.{AreReceivers}
use Rattle.air_check.specs.Tunings.{AreTuned}
use Rattle.air_check.specs.declared.index.Index.{Index}

-- the nodes are those of the scenario, the transmissions are in order, and each comes to the nodes of its mask
pub record IsSearchable (s : ScenarioParts) (i : Index) : Type 0 where
  pub said : IsScenario s
  pub ids : i.nodes.items ≡ map (λ n. n.node) s.nodes
  pub in_order : AllPairs Before i.sent.items
  pub receivers : AreReceivers s i.nodes.items i.sent.items i.receivers.items

-- the index holds the transmissions and tunings of the log, and no others
pub record IsIndex (air : List Entry) (i : Index) : Type 0 where
  pub all_sent : (y : Sending) → Contains (sendings_of air) y → Contains i.sent.items y
  pub sent : (y : Sending) → Contains i.sent.items y → Contains (sendings_of air) y
  pub tuned : AreTuned (tunings_of air) i.tuned.items
