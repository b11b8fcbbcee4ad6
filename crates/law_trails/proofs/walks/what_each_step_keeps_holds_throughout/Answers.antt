use Rattle.std.specs.Prelude.{◌≡◌, true}
use Rattle.law_trails.proofs.WalkOfRun.{holds_in_tick, holds_along, holds_in_run}
use Rattle.law_trails.proofs.walks.what_each_step_keeps_holds_throughout.Goals as goal

pub returns : goal.returns
returns c = record {
  tick = λ P. holds_in_tick (λ t phase d. P t phase d ≡ true);
  along = λ P. holds_along (λ t phase d. P t phase d ≡ true);
  run = λ P. holds_in_run (λ v t phase d. P v t phase d ≡ true);
}
