use Rattle.law_bus.proofs.SameScans.{scans_law}
use Rattle.law_bus.proofs.run_laws.nodes_scan_as_on_the_bus.Goals as goal

pub returns : goal.returns
returns c = scans_law
