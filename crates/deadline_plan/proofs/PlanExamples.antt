-- The definitions, tried on small plans.
use Rattle.std.proofs.Common.{◌≡◌, List, [], ◌∷◌, ◌++◌, map, refl}
use Rattle.deadline_plan.specs.declared.job.Job.{Job}
use Rattle.deadline_plan.specs.declared.stream.DeadlineStream.{DeadlineStream}
use Rattle.deadline_plan.specs.Jobs.{jobs, load}
use Rattle.deadline_plan.specs.Grants.{granted_jobs, jobs_left, grants_from, grants, owners_of_round}

-- one slot in each of four frames
abbrev two_admitted : List DeadlineStream
two_admitted = record { owner = 8; start = 0; period = 2; deadline = 2 } ∷ record { owner = 12; start = 0; period = 2; deadline = 1 } ∷ []

abbrev third : DeadlineStream
third = record { owner = 16; start = 0; period = 4; deadline = 4 }

their_rounds : map owners_of_round (grants 1 4 (jobs 4 two_admitted)) ≡ (12 ∷ []) ∷ (8 ∷ []) ∷ (12 ∷ []) ∷ (8 ∷ []) ∷ []
unfolding granted_jobs jobs_left grants_from
their_rounds = refl

their_loads : load (jobs 4 two_admitted) 0 1 ∷ load (jobs 4 two_admitted) 0 2 ∷ load (jobs 4 two_admitted) 0 4 ∷ load
    (jobs 4 two_admitted) 1 4 ∷ [] ≡ 1 ∷ 2 ∷ 4 ∷ 2 ∷ []
their_loads = refl

-- with a third stream the four frames have five jobs, and no pair with a smaller end, or a greater beginning, is over
abbrev with_third : List Job
with_third = jobs 4 (two_admitted ++ third ∷ [])

loads_with_third : load with_third 0 4 ∷ load with_third 1 4 ∷ load with_third 2 4 ∷ load with_third 3 4 ∷ load with_third 0 3 ∷ load with_third 1 3 ∷ load
    with_third 2 3 ∷ load with_third 0 2 ∷ load with_third 1 2 ∷ load with_third 0 1 ∷ []
    ≡ 5 ∷ 2 ∷ 2 ∷ 0 ∷ 3 ∷ 1 ∷ 1 ∷ 2 ∷ 0 ∷ 1 ∷ []
loads_with_third = refl

-- a stream whose first job would end past the last frame has no job, and no round has an owner
without_job : jobs 1 (record { owner = 8; start = 0; period = 1; deadline = 2 } ∷ []) ≡ []
without_job = refl

no_owner : map owners_of_round (grants 40 1 (jobs 1 (record { owner = 8; start = 0; period = 1; deadline = 2 } ∷ []))) ≡ [] ∷ []
unfolding granted_jobs jobs_left grants_from
no_owner = refl
