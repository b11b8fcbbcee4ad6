-- The row of the alarm at which a window closes, by the stage of the node, and where the node waits then.
use Rattle.std.specs.Prelude.{ℕ, ◌+◌, nat_lt, if◌then◌else◌, Some, None}
use Rattle.std.specs.declared.option.Option.{Option}
use Rattle.bus_rules.specs.Cores.{Setup}
use Rattle.node_core.specs.declared.stage.Stage.{Stage}
use Rattle.node_core.specs.declared.stage.Stage.TheVariants.{Idle, Scanning, AwaitFrame, AwaitSlot, InWindow}
use Rattle.node_core.specs.Nodes.{Node}
use Rattle.node_core.specs.Rows.{Stepped, window_closes}

abbrev pub row_at_closing : Setup → Node → Stage → Option Stepped
row_at_closing s n (InWindow j w) = Some (window_closes s n j w)
row_at_closing s n Idle = None
row_at_closing s n Scanning = None
row_at_closing s n AwaitFrame = None
row_at_closing s n (AwaitSlot j) = None

-- after the window of slot j of a round that ends with the last
abbrev pub waits_after : ℕ → ℕ → Stage
waits_after j last = if nat_lt j last then AwaitSlot (j + 1) else AwaitFrame
