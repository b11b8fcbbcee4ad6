use Rattle.bus_time.proofs.DataHosts.{data_hosts}
use Rattle.bus_time.proofs.stamp_laws.data_of_a_named_host_is_sent_as_a_host.Goals as goal

pub returns : goal.returns
returns c = data_hosts
