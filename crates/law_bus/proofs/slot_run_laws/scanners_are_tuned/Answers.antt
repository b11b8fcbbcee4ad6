use Rattle.law_bus.proofs.ScannersListen.{scanners_listen}
use Rattle.law_bus.proofs.slot_run_laws.scanners_are_tuned.Goals as goal

pub returns : goal.returns
returns c = scanners_listen
