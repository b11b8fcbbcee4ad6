use Rattle.std.proofs.Common.{refl}
use Rattle.glossy_relay.specs.FloodState.{listening, initiating}
use Rattle.glossy_relay.proofs.WholeRuns.{off_at_limit}
use Rattle.glossy_relay.proofs.laws.turns_off_after_its_last_sending.Goals as goal

pub returns : goal.returns
returns c = record {
  listening = λ kind slot n calls. off_at_limit (listening kind slot n) calls n refl refl;
  initiating = λ p n calls. off_at_limit (initiating p n) calls n refl refl;
}
