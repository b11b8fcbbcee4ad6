-- As a frame starts, all windows of a node have closed.
use Rattle.std.proofs.Common.{◌≡◌, ℕ, ◌/◌, List, ap, true, arith}
use Rattle.node_core.specs.declared.stage.Stage.{Stage}
use Rattle.node_core.specs.declared.stage.Stage.TheVariants.{Idle, Scanning, AwaitFrame, AwaitSlot, InWindow}
use Rattle.node_core.specs.Nodes.{Node}
use Rattle.scenario_text.specs.ScenarioParts.{ScenarioParts}
use Rattle.scenario_text.specs.FloodParts.{knows}
use Rattle.air_log.specs.declared.entry.Entry.{Entry}
use Rattle.air_log.specs.Devices.{Device, Power, PowerOff, PowerOn}
use Rattle.air_log.specs.Trails.{run_end, frame_start}
use Rattle.air_log.specs.WindowLogs.{WindowLog}
use Rattle.law_trails.specs.TrailLinks.{device_in}
use Rattle.law_safety.specs.CountedFrames.{IsResting}
use Rattle.law_safety.specs.Invariant.{IsObedientRun}
use Rattle.law_safety.specs.NodesInOrder.{InOrderBy}
use Rattle.law_safety.proofs.FrameStarts.{rests_at_start}
use Rattle.law_safety.proofs.InvariantHolds.{holds_throughout}
use Rattle.law_safety.proofs.RunFacts.{frame_is, frame_lasts}
use Rattle.law_windows.specs.OpenWindows.{AreClosed, StandAt, StandBy}
use Rattle.law_windows.specs.WindowLaws.{WindowsCloseInTheirFrames}
use Rattle.law_windows.proofs.WindowFacts.{stand_by_power}

resting_closed : (logs : List WindowLog) (n : Node) (st : Stage) → IsResting st → StandAt logs n st → AreClosed logs
resting_closed logs n Idle rests stand = stand
resting_closed logs n Scanning rests stand = stand
resting_closed logs n AwaitFrame rests stand = stand
resting_closed logs n (AwaitSlot j) rests stand = stand
resting_closed logs n (InWindow j w) rests stand = absurd rests

module _ (s : ScenarioParts) (clocks : ℕ → ℕ → ℕ) (air : List Entry) (v t : ℕ) (start : frame_start s (t / s.profile.frame) ≡ t) where
  closed_by : (logs : List WindowLog) (d : Device) (p : Power) → InOrderBy s clocks air v t t d p → StandBy logs p → AreClosed logs
  closed_by logs d (PowerOff boots) order stand = stand
  closed_by logs d (PowerOn n) order stand = resting_closed logs n n.stage (rests_at_start s clocks v t n start order.frame) stand

pub closed_in_frames : WindowsCloseInTheirFrames
closed_in_frames s clocks air run v known t within start =
    let d = device_in s clocks air v t in
    closed_by s clocks air v t start d.made.windows d d.power
    ((holds_throughout s clocks air run t within).nodes v known).by_power (stand_by_power s clocks air run v known t within)

-- and so at the end of a run
pub closed_at_end : (s : ScenarioParts) (clocks : ℕ → ℕ → ℕ) (air : List Entry) → IsObedientRun s clocks air → (v : ℕ) → knows s.nodes v ≡ true
    → AreClosed (device_in s clocks air v (run_end s)).made.windows
closed_at_end s clocks air run v known =
    let lasts = frame_lasts s run.driven.sound in
    closed_in_frames s clocks air run v known (run_end s) (omega arith)
    (ap (λ (f : ℕ). frame_start s f) (frame_is s s.frames (run_end s) (omega arith) (omega (arith, lasts))))
