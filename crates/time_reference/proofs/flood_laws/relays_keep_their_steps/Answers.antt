use Rattle.time_reference.proofs.HeardZeros.{relays_near}
use Rattle.time_reference.proofs.flood_laws.relays_keep_their_steps.Goals as goal

pub returns : goal.returns
returns c = relays_near
