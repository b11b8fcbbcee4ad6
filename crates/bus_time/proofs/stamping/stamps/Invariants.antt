use Rattle.std.proofs.Common.{take}
use Rattle.std.specs.List.{AllZip}
use Rattle.scenario_clocks.specs.StatedClocks.{scenario_clock}
use Rattle.bus_time.specs.Stamps.{IsStamp, stamped}
use Rattle.bus_time.proofs.stamping.stamps.Given as goal

abbrev pub invariant-loop-i : goal.invariant-loop-i
invariant-loop-i l = AllZip (IsStamp l.fn.s (scenario_clock l.fn.s) l.fn.air) (take l.i (stamped l.fn.s.profile l.fn.air)) l.stamps.items
