use Rattle.std.proofs.Common.{ap}
use Rattle.node_core.specs.Nodes.{NodeState}
use Rattle.node_core.proofs.Followed.{setup_stays}
use Rattle.node_core.proofs.node.Node.handle.Goals as goal

pub returns-in-Boot-clause-setup : goal.returns-in-Boot-clause-setup
returns-in-Boot-clause-setup g c = ap (λ (s : NodeState). s.setup) c.boot.ensures.node

pub returns-in-Alarm-clause-setup : goal.returns-in-Alarm-clause-setup
returns-in-Alarm-clause-setup g c = setup_stays _ _ _ _ _ c.alarm.ensures

pub returns-in-Heard-clause-setup : goal.returns-in-Heard-clause-setup
returns-in-Heard-clause-setup g c = setup_stays _ _ _ _ _ c.hear.ensures

pub returns-in-Sent-clause-setup : goal.returns-in-Sent-clause-setup
returns-in-Sent-clause-setup g c = setup_stays _ _ _ _ _ c.end_sending.ensures
