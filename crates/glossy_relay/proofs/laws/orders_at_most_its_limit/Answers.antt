use Rattle.std.proofs.Common.{arith}
use Rattle.glossy_relay.specs.FloodState.{listening, initiating}
use Rattle.glossy_relay.proofs.WholeRuns.{within_limit}
use Rattle.glossy_relay.proofs.laws.orders_at_most_its_limit.Goals as goal

pub returns : goal.returns
returns c = record {
  listening = λ kind slot n calls allowed. omega (arith, within_limit calls (listening kind slot n) (omega arith) allowed);
  initiating = λ p n calls some allowed. omega (arith, within_limit calls (initiating p n) (omega arith) allowed);
}
