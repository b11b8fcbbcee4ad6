use Rattle.std.proofs.Common.{◌≡◌, true}
use Rattle.radio_model.specs.Hearing.{TunedThrough}
use Rattle.lwb_flood.proofs.Slots.{slot_run}
use Rattle.lwb_flood.proofs.flood_laws.slots_are_runs.Goals as goal

pub returns : goal.returns
returns c = record {
  scene = λ p b fits n clocks a r. slot_run p b fits n clocks r (TunedThrough a);
  test = λ p b fits n clocks r tuned. slot_run p b fits n clocks r (λ v x. tuned v x ≡ true);
}
