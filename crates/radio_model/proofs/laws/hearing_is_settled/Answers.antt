use Rattle.radio_model.proofs.Settled.{settled}
use Rattle.radio_model.proofs.laws.hearing_is_settled.Goals as goal

pub returns : goal.returns
returns c = settled
