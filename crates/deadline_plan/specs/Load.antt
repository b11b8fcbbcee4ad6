-- Internal: the load of a pair of frames, as it is counted.
use Rattle.std.specs.Prelude.{◌≡◌, ◌<◌, ◌≤◌, ℕ, zero, suc, ◌+◌, ◌-◌, ◌*◌, ◌%◌, List, Bool, false, ◌&&◌, ◌==◌, nat_le, slice_index, Some, None, Option}
use Rattle.deadline_plan.specs.declared.stream.DeadlineStream.{DeadlineStream}
use Rattle.deadline_plan.specs.declared.load.Overload.{Overload}

-- the stream has a job with this release and this end
abbrev pub has_job : DeadlineStream → ℕ → ℕ → Bool
has_job s release end = nat_le s.start release && (((release - s.start) % s.period == 0) && ((release + s.deadline) == end))

abbrev pub is_at : Option ℕ → ℕ → Bool
is_at None n = false
is_at (Some m) n = m == n

-- the sum of this many of the numbers, from this place on
unfoldable pub sum_from : List ℕ → ℕ → ℕ → ℕ
sum_from ns from zero = 0
sum_from ns from (suc n) = slice_index ns from + sum_from ns (from + 1) n

-- where `released` says how many jobs are released in each frame: the latest frame from which more of them are released
-- than there are slots until `until`
pub record IsLatestOver (released : List ℕ) (slots until : ℕ) (o : Overload) : Type 0 where
  pub ends : o.until ≡ until
  pub before : o.from < until
  pub demand : o.demand ≡ sum_from released o.from (until - o.from)
  pub over : slots * (until - o.from) < o.demand
  pub latest : (a : ℕ) → o.from < a → a < until → sum_from released a (until - a) ≤ slots * (until - a)
