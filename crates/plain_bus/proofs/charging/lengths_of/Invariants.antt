use Rattle.std.proofs.Common.{◌≡◌, map, take}
use Rattle.plain_bus.specs.SlotCosts.{said_bytes}
use Rattle.plain_bus.specs.SlotFloods.{seen_window}
use Rattle.plain_bus.proofs.charging.lengths_of.Given as goal

abbrev pub invariant-loop-window : goal.invariant-loop-window
invariant-loop-window l = l.lengths.items ≡ map (λ w. said_bytes (seen_window w)) (take l.window-index l.windows)
