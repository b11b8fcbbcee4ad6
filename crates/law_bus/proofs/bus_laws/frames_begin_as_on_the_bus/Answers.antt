use Rattle.law_bus.proofs.BusLaws.{frames_begin}
use Rattle.law_bus.proofs.bus_laws.frames_begin_as_on_the_bus.Goals as goal

pub returns : goal.returns
returns c = frames_begin
