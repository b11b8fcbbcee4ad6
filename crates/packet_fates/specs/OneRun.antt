-- The lists of one run of a scenario on the bus.
use Rattle.std.specs.Prelude.{◌≡◌}
use Rattle.scenario_text.specs.ScenarioParts.{ScenarioParts}
use Rattle.bus_terms.specs.Bus.{bus_deliveries}
use Rattle.bus_terms.specs.Packets.{bus_puts, bus_sent}
use Rattle.packet_fates.specs.declared.bus_lists.BusLists.{BusLists}

pub record AreOfRun (s : ScenarioParts) (lists : BusLists) : Type 0 where
  pub hosted : lists.hosts.now ≡ s.hosts
  pub scripted : lists.script.now ≡ s.script
  pub put : lists.puts.now ≡ bus_puts s
  pub transmitted : lists.sent.now ≡ bus_sent s
  pub delivered : lists.deliveries.now ≡ bus_deliveries s
