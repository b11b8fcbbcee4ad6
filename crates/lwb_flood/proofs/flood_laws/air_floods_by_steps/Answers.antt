use Rattle.std.proofs.Common.{◌≡◌, true}
use Rattle.radio_model.specs.Hearing.{TunedThrough}
use Rattle.lwb_flood.proofs.WholeFlood.{flood_by_steps}
use Rattle.lwb_flood.proofs.flood_laws.air_floods_by_steps.Goals as goal

pub returns : goal.returns
returns c = record { scene = λ a r f. flood_by_steps r (TunedThrough a) f; test = λ r tuned f. flood_by_steps r (λ v x. tuned v x ≡ true) f }
