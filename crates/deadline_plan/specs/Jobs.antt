-- Streams with deadlines, their jobs, and the load of a pair of frames.
use Rattle.std.specs.Prelude.{◌<◌, ◌≤◌, ℕ, ◌+◌, ◌-◌, ◌*◌, List, ◌&&◌, nat_le, map, filter, count_by}
use Rattle.std.specs.List.{flat_map, range_with_len}
use Rattle.deadline_plan.specs.declared.job.Job.{Job}
use Rattle.deadline_plan.specs.declared.stream.DeadlineStream.{DeadlineStream}

pub record IsDeadlineStream (s : DeadlineStream) : Type 0 where
  pub start : s.start ≤ 1023
  pub some_period : 1 ≤ s.period
  pub short_period : s.period ≤ 64
  pub some_deadline : 1 ≤ s.deadline
  pub short_deadline : s.deadline ≤ 64

-- the job with number m, counted from 0
abbrev pub job : DeadlineStream → ℕ → Job
job s m = record { end = s.start + m * s.period + s.deadline; owner = s.owner; release = s.start + m * s.period }

-- the jobs of a stream that end by the last frame. As periods and deadlines are 1 at least, all of them have numbers below
-- the count of frames
abbrev pub jobs_of : ℕ → DeadlineStream → List Job
jobs_of frames s = filter (λ j. nat_le j.end frames) (map (job s) (range_with_len 0 frames))

abbrev pub jobs : ℕ → List DeadlineStream → List Job
jobs frames ss = flat_map (jobs_of frames) ss

-- how many of the jobs are released in frame `from` or later and end by frame `until`
abbrev pub load : List Job → ℕ → ℕ → ℕ
load js from until = count_by (λ j. nat_le from j.release && nat_le j.end until) js

-- the load is more than the slots of the frames from `from` to `until - 1`
abbrev pub IsOverload : ℕ → List Job → ℕ → ℕ → Type 0
IsOverload slots js from until = (from < until) × (slots * (until - from) < load js from until)

abbrev pub NothingOver : ℕ → List Job → Type 0
NothingOver slots js = (from until : ℕ) → from < until → load js from until ≤ slots * (until - from)

-- of the pairs that are over, that with the least `until`, and of these that with the greatest `from`
pub record IsFirstOver (slots : ℕ) (js : List Job) (from until : ℕ) : Type 0 where
  pub over : IsOverload slots js from until
  pub least : (a b : ℕ) → IsOverload slots js a b → until ≤ b
  pub greatest : (a : ℕ) → IsOverload slots js a until → a ≤ from
