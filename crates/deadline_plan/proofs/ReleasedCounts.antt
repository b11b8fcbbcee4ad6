-- The count of the jobs released in each frame, as it grows with the ends.
use Rattle.std.proofs.Common.{◌≡◌, ℕ, ◌+◌, ◌-◌, ◌*◌, ◌<◌, ◌≤◌, List, ◌++◌, get_or, length, take, drop}
use Rattle.std.proofs.Common.{◌&&◌, ◌==◌, nat_le, count_by, sym, ◌∙◌, ap, arith, inl, inr}
use Rattle.std.proofs.lemmas.Bool.{cases_lt}
use Rattle.std.proofs.lemmas.List.{get_or_past, take_all, drop_all, append-nil}
use Rattle.std.specs.List.{AllByRecursion}
use Rattle.deadline_plan.specs.declared.stream.DeadlineStream.{DeadlineStream}
use Rattle.deadline_plan.specs.declared.load.Overload.{Overload}
use Rattle.deadline_plan.specs.Jobs.{IsDeadlineStream, jobs, load, NothingOver, IsFirstOver}
use Rattle.deadline_plan.specs.Load.{has_job, sum_from, IsLatestOver}
use Rattle.deadline_plan.proofs.StreamJobs.{InFrames, in_frames, count_streams, few_jobs_in_all}
use Rattle.deadline_plan.proofs.Spans.{released_at, none_at_first, one_end_more, nothing_over, first_is, nothing_more}

-- what a slice of the whole list leaves when it was written
pub written : (now before : List ℕ) (n : ℕ) → length now ≡ length before → n ≡ length before → take n (now ++ drop (length now) before) ≡ now
written now before n same all =
    let none = drop_all (length now) before (omega arith) in
    ap (λ (l : List ℕ). take n (now ++ l)) none ∙ ap (λ (l : List ℕ). take n l) (append-nil now) ∙ take_all n now (omega arith)

module _ (frames : ℕ) (ss : List DeadlineStream) (few : frames ≤ 1024) (short : length ss ≤ 33) (all : AllByRecursion IsDeadlineStream ss) where
  abbrev pub Counts : ℕ → List ℕ → Type 0
  Counts ended released = (a : ℕ) → a < frames → get_or released a 0 ≡ released_at (jobs frames ss) a ended

  sound : AllByRecursion (InFrames frames) (jobs frames ss)
  sound = in_frames frames ss all

  pub small : (ended : ℕ) (released : List ℕ) → length released ≡ frames → Counts ended released → (a : ℕ) → get_or released a 0 ≤ 65536
  small ended released long counted a =
      elim (cases_lt a frames) [
        | inl below ↦ omega (arith, counted a below, few_jobs_in_all (λ j. (j.release == a) && nat_le j.end ended) frames few ss)
        | inr past ↦ omega (arith, get_or_past released a 0 (omega arith))
      ]

  pub counts_at_first : (released : List ℕ) → ((a : ℕ) → a < frames → get_or released a 0 ≡ 0) → Counts 0 released
  counts_at_first released zeros a below = zeros a below ∙ sym (none_at_first frames (jobs frames ss) sound a)

  pub counts_more : (ended : ℕ) (released now : List ℕ) → ended < frames → Counts ended released
      → ((a : ℕ) → a < frames → get_or now a 0 ≡ get_or released a 0 + count_by (λ s. has_job s a (ended + 1)) ss) → Counts (ended + 1) now
  counts_more ended released now within counted adds a below =
      omega (arith, adds a below, counted a below, one_end_more (jobs frames ss) a ended, count_streams frames a (ended + 1) (omega arith) ss all)

  -- after a list that was written over
  pub counts_written : (ended : ℕ) (before given now : List ℕ) → ended < frames → given ≡ before → length before ≡ frames → Counts ended before
      → length now ≡ length given
      → ((a : ℕ) → a < length given → get_or now a 0 ≡ get_or given a 0 + count_by (λ s. has_job s a (ended + 1)) ss) → Counts (ended + 1) now
  counts_written ended before given now within is long counted same adds =
      let places : length given ≡ frames = ap length is ∙ long in
      counts_more ended before now within counted (λ a below. adds a (omega (arith, places)) ∙ ap (λ (l : List ℕ). get_or l a 0 + count_by (λ s. has_job s a
      (ended + 1)) ss) is)

  pub none_over : (slots : ℕ) → ((from until : ℕ) → until ≤ frames → from < until → load (jobs frames ss) from until ≤ slots * (until - from))
      → NothingOver slots (jobs frames ss)
  none_over slots nothing = nothing_over frames (jobs frames ss) sound slots nothing

  module _ (slots ended : ℕ) (within : ended < frames) (nothing : (from until : ℕ) → until ≤ ended → from < until
      → load (jobs frames ss) from until ≤ slots * (until - from)) (now : List ℕ) (counted : Counts (ended + 1) now) where
    pub overload : (o : Overload) → IsLatestOver now slots (ended + 1) o → IsFirstOver slots (jobs frames ss) o.from o.until × (o.demand ≡ load
        (jobs frames ss) o.from o.until)
    overload o is = first_is frames (jobs frames ss) sound slots ended within nothing now counted o is

    pub none_so_far : ((a : ℕ) → a < ended + 1 → sum_from now a (ended + 1 - a) ≤ slots * (ended + 1 - a))
        → (from until : ℕ) → until ≤ ended + 1 → from < until → load (jobs frames ss) from until ≤ slots * (until - from)
    none_so_far none = nothing_more frames (jobs frames ss) sound slots ended within nothing now counted none
