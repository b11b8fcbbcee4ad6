use Rattle.law_bus.proofs.BusLaws.{slots_go, windows_open, cores_are}
use Rattle.law_bus.proofs.bus_laws.slots_go_as_on_the_bus.Goals as goal

pub returns : goal.returns
returns c = record { slots = slots_go; windows = windows_open; cores = cores_are }
