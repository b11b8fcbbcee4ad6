use Rattle.std.proofs.Common.{◌≡◌, true}
use Rattle.radio_model.specs.Hearing.{TunedThrough}
use Rattle.lwb_flood.proofs.TunedWindows.{tuned_in_window}
use Rattle.lwb_flood.proofs.flood_laws.windows_give_tuning.Goals as goal

pub returns : goal.returns
returns c = record { scene = λ a r. tuned_in_window r (TunedThrough a); test = λ r tuned. tuned_in_window r (λ v x. tuned v x ≡ true) }
