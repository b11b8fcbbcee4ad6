-- Within one frame: a transmission ends before the frame after that of its start begins.
use Rattle.std.proofs.Common.{ℕ, List}
use Rattle.scenario_text.specs.ScenarioParts.{ScenarioParts}
use Rattle.air_log.specs.declared.entry.Entry.{Entry}
use Rattle.air_log.specs.Safe.{WithinOneFrame}
use Rattle.law_safety.proofs.FloodTimes.{before_frame_end}
use Rattle.law_safety.specs.Endings.{EndsInOrder}
use Rattle.law_safety.proofs.RunSendings.{of_flood}

pub within_one_frame : (s : ScenarioParts) (clocks : ℕ → ℕ → ℕ) (air : List Entry) → EndsInOrder s clocks air
    → WithinOneFrame s air
within_one_frame s clocks air whole x there = before_frame_end s clocks air whole.run x (of_flood s clocks air whole x there) there
