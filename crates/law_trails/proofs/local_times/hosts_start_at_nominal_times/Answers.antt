use Rattle.law_trails.proofs.HeardReferences.{host_starts}
use Rattle.law_trails.proofs.local_times.hosts_start_at_nominal_times.Goals as goal

pub returns : goal.returns
returns c = host_starts
