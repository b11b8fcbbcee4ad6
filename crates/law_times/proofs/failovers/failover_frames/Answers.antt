use Rattle.std.proofs.Common.{rules, ◌≡◌, ◌+◌, ◌*◌, subst}
use Rattle.law_times.proofs.Words.{HostsWithin, failover_bound}
use Rattle.law_times.proofs.LastHosts.{last_hosts}
use Rattle.law_times.proofs.failovers.failover_frames.Goals as goal

pub returns-clause-enough : goal.returns-clause-enough
returns-clause-enough c =
    let is : failover_bound c.args.hosts ≡ c.from.result + c.from-2.result * c.from-3.result + c.from-4.result = search rules in
    subst (HostsWithin c.args.hosts) is (last_hosts c.args.hosts)
