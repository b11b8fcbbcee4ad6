use Rattle.radio_model.specs.Stations.{station_after_tuning, station_after_start, station_after_end}
use Rattle.radio_model.proofs.Places.{first_is_medium, nodes_from, still_medium}
use Rattle.radio_model.proofs.Changes.{retuned_keeps, started_keeps, finished_keeps}
use Rattle.radio_model.proofs.laws.mediums_stay.Goals as goal

pub returns-clause-first : goal.returns-clause-first
returns-clause-first c = first_is_medium

pub returns-clause-nodes : goal.returns-clause-nodes
returns-clause-nodes c = λ p nodes. nodes_from 0 nodes

pub returns-clause-tuning : goal.returns-clause-tuning
returns-clause-tuning c = λ m v rank t is. still_medium (station_after_tuning rank t) (retuned_keeps rank t) v t m is

pub returns-clause-starting : goal.returns-clause-starting
returns-clause-starting c = λ m v t packet is. still_medium (station_after_start m.numbers t packet) (started_keeps m.numbers t packet) v t m is

pub returns-clause-ending : goal.returns-clause-ending
returns-clause-ending c = λ m v t is. still_medium station_after_end finished_keeps v t m is
