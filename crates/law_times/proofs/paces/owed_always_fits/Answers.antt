use Rattle.law_times.proofs.LatentSlots.{keep_pace, owed_fits}
use Rattle.law_times.proofs.paces.owed_always_fits.Goals as goal

pub returns : goal.returns
returns c = record { fits = owed_fits; pace = keep_pace }
