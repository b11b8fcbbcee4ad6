use Rattle.std.proofs.Common.{ℕ, List, length, sym, ap, subst, arith}
use Rattle.std.specs.Prelude.{All}
use Rattle.law_times.specs.Failovers.{HostsWithin, failover_bound}
use Rattle.law_times.specs.FirstRounds.{FirstRoundsCome}
use Rattle.scenario_text.proofs.SoundScenarios.{sound}
use Rattle.bus_bounds.specs.KeptBounds.{AreKept, IsOpen}
use Rattle.bus_bounds.specs.declared.finding.Finding.{Finding}
use Rattle.bus_bounds.proofs.FindingsKept.{all_kept, all_open}
use Rattle.bus_bounds.proofs.bounds.findings.Goals as goal

pub overflow_cast-hosts : goal.overflow_cast-hosts
overflow_cast-hosts c =
    let few = (sound c.args.scenario.now c.hosts.ensures.said).few_hosts in
    let same = ap length c.hosts.ensures.value in
    omega (arith, few, same)

pub failover_frames-most-requires : goal.failover_frames-most-requires
failover_frames-most-requires c =
    let is = sound c.args.scenario.now c.hosts.ensures.said in
    let same = ap length c.hosts.ensures.value in
    (omega (arith, is.some_hosts, same), omega (arith, is.few_hosts, same))

pub returns-clause-kept : goal.returns-clause-kept
returns-clause-kept c =
    let s = c.args.scenario.now in
    let come = subst FirstRoundsCome c.first_round_frames.ensures.value c.first_round_frames.ensures.enough in
    let within = subst (λ (n : ℕ). HostsWithin (length c.hosts.result.now) n) c.failover_frames-most.ensures.value c.failover_frames-most.ensures.enough in
    let of_hosts = subst (λ (hosts : List ℕ). HostsWithin (length hosts) (failover_bound (length hosts))) c.hosts.ensures.value within in
    subst (AreKept s) (sym c.in_ok-found.ensures) (all_kept s c.hosts.ensures.said come of_hosts)

pub returns-clause-unmet : goal.returns-clause-unmet
returns-clause-unmet c =
    let s = c.args.scenario.now in
    λ ratios. subst (λ (found : List Finding). All (IsOpen s ratios) found) (sym c.in_ok-found.ensures) (all_open s c.hosts.ensures.said ratios)
