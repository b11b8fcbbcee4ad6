use Rattle.radio_model.proofs.SameHistory.{holds_same}
use Rattle.radio_model.proofs.laws.same_history_is_held.Goals as goal

pub returns : goal.returns
returns c = holds_same
