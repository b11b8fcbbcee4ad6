use Rattle.radio_model.proofs.OneStation.{same_nodes, changed_station, other_station}
use Rattle.radio_model.proofs.Changes.{retuned_keeps, started_keeps, finished_keeps}
use Rattle.radio_model.proofs.laws.stations_after.Goals as goal

pub returns-clause-nodes : goal.returns-clause-nodes
returns-clause-nodes c = same_nodes

pub returns-clause-node : goal.returns-clause-node
returns-clause-node c = changed_station

pub returns-clause-others : goal.returns-clause-others
returns-clause-others c = other_station

pub returns-clause-tuning : goal.returns-clause-tuning
returns-clause-tuning c = λ rank t. (retuned_keeps rank t).node

pub returns-clause-starting : goal.returns-clause-starting
returns-clause-starting c = λ p t packet. (started_keeps p t packet).node

pub returns-clause-ending : goal.returns-clause-ending
returns-clause-ending c = finished_keeps.node
