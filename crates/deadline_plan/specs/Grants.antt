-- Earliest deadline first: which jobs are granted in which frame.
use Rattle.std.specs.Prelude.{◌<◌, ◌≤◌, ℕ, zero, suc, ◌+◌, List, [], ◌∷◌, Bool, nat_lt, nat_le, if◌then◌else◌, map, All, slice_index_or}
use Rattle.std.specs.List.{flat_map}
use Rattle.std.specs.List.Sorted.{IsPermutation}
use Rattle.std.specs.Ordering.{nat_cmp, ordering_then, is_lt}
use Rattle.lwb_base.specs.Sorting.{in_order}
use Rattle.deadline_plan.specs.declared.job.Job.{Job}

-- by end, then owner, then release
abbrev pub comes_before : Job → Job → Bool
comes_before j k = is_lt (ordering_then (nat_cmp j.end k.end) (ordering_then (nat_cmp j.owner k.owner) (nat_cmp j.release k.release)))

-- of waiting jobs in their order, the first this many that are released by this frame
unfoldable pub granted_jobs : ℕ → ℕ → List Job → List Job
granted_jobs slots frame [] = []
granted_jobs zero frame (j ∷ js) = []
granted_jobs (suc slots) frame (j ∷ js) = if nat_le j.release frame then j ∷ granted_jobs slots frame js else granted_jobs (suc slots) frame js

-- the waiting jobs without these
unfoldable pub jobs_left : ℕ → ℕ → List Job → List Job
jobs_left slots frame [] = []
jobs_left zero frame (j ∷ js) = j ∷ js
jobs_left (suc slots) frame (j ∷ js) = if nat_le j.release frame then jobs_left slots frame js else j ∷ jobs_left (suc slots) frame js

-- what this many frames grant of waiting jobs, from this frame on
unfoldable pub grants_from : ℕ → ℕ → ℕ → List Job → List (List Job)
grants_from slots frame zero js = []
grants_from slots frame (suc frames) js = granted_jobs slots frame js ∷ grants_from slots (frame + 1) frames (jobs_left slots frame js)

-- the jobs granted in each frame
abbrev pub grants : ℕ → ℕ → List Job → List (List Job)
grants slots frames js = grants_from slots 0 frames (in_order comes_before js)

-- the owners of a frame's slots, ascending
abbrev pub owners_of_round : List Job → List ℕ
owners_of_round js = in_order nat_lt (map (λ (j : Job). j.owner) js)

-- each job is granted once, in a frame from its release to its end - 1
pub record AreGrantedInTime (js : List Job) (granted : List (List Job)) : Type 0 where
  pub once : IsPermutation js (flat_map (λ g. g) granted)
  pub in_time : (frame : ℕ) → All (λ j. (j.release ≤ frame) × (frame < j.end)) (slice_index_or granted frame [])
