use Rattle.law_trails.proofs.HeardReferences.{heard_reference}
use Rattle.law_trails.proofs.ProfilePackets.{profile_reference}
use Rattle.law_trails.proofs.local_times.schedules_heard_whole_give_references.Goals as goal

pub returns : goal.returns
returns c = record { any = heard_reference; of_profile = profile_reference }
