use Rattle.time_reference.proofs.Run.{at_boot}
use Rattle.time_reference.proofs.clock_laws.boot_finds_the_frame.Goals as goal

pub returns : goal.returns
returns c = at_boot
