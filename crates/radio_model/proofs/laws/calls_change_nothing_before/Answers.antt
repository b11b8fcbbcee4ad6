use Rattle.radio_model.proofs.NothingBefore.{by_tuning, by_starting, by_ending, by_waiting}
use Rattle.radio_model.proofs.laws.calls_change_nothing_before.Goals as goal

pub returns-clause-tuning : goal.returns-clause-tuning
returns-clause-tuning c = λ m v rank t a nodes h later. by_tuning m nodes.ascending a h v rank t later

pub returns-clause-starting : goal.returns-clause-starting
returns-clause-starting c = by_starting

pub returns-clause-ending : goal.returns-clause-ending
returns-clause-ending c = by_ending

pub returns-clause-waiting : goal.returns-clause-waiting
returns-clause-waiting c = by_waiting
