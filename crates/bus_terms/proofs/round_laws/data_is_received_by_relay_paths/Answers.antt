use Rattle.bus_terms.proofs.ReceivedInRounds.{received}
use Rattle.scenario_text.proofs.SoundOver.{over_sound}
use Rattle.bus_terms.proofs.round_laws.data_is_received_by_relay_paths.Goals as goal

pub returns : goal.returns
returns c = λ s is. received s (over_sound s is)
