use Rattle.law_times.proofs.BackupHosts.{backups, nodes_follow}
use Rattle.law_times.proofs.failovers.takeover_frames.Goals as goal

pub returns-clause-host : goal.returns-clause-host
returns-clause-host c = backups

pub returns-clause-nodes : goal.returns-clause-nodes
returns-clause-nodes c = nodes_follow
