-- A node whose power never came on is to scan rank 0.
use Rattle.std.proofs.Common.{◌≡◌}
use Rattle.bus_rules.specs.declared.tune.Tune.TheVariants.{Scan}
use Rattle.bus_rules.specs.Cores.{Core}
use Rattle.node_core.specs.declared.node.Place.TheVariants.{Off}
use Rattle.node_core.specs.declared.stage.Stage.{Stage}
use Rattle.node_core.specs.declared.stage.Stage.TheVariants.{Idle, Scanning, AwaitFrame, AwaitSlot, InWindow}
use Rattle.node_core.specs.Standing.{IsStage, place_of}

pub off_scans : (c : Core) (stage : Stage) → IsStage c stage → place_of stage ≡ Off → c.tune ≡ Scan 0 0
off_scans c Idle is off = is
off_scans c Scanning is off = cc
off_scans c AwaitFrame is off = cc
off_scans c (AwaitSlot j) is off = cc
off_scans c (InWindow j w) is off = cc
