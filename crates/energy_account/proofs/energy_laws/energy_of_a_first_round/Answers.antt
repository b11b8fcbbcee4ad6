use Rattle.energy_account.proofs.FirstRoundEnergy.{host_energy, other_energy}
use Rattle.energy_account.proofs.energy_laws.energy_of_a_first_round.Goals as goal

pub returns : goal.returns
returns c = record { host = host_energy; other = other_energy }
