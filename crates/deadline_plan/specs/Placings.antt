-- Jobs placed in frames, in any way at all.
use Rattle.std.specs.Prelude.{◌<◌, ◌≤◌, ℕ, List, ◌==◌, count_by, All}
use Rattle.deadline_plan.specs.declared.job.Job.{Job}

-- each job is placed in a frame from its release to its end - 1, and no frame has more jobs than slots
pub record IsPlacing (slots : ℕ) (js : List Job) (frame_of : Job → ℕ) : Type 0 where
  pub in_time : All (λ j. (j.release ≤ frame_of j) × (frame_of j < j.end)) js
  pub has_slots : (frame : ℕ) → count_by (λ j. frame_of j == frame) js ≤ slots
