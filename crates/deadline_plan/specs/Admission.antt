-- Which streams are admitted, and the rounds of those that are.
use Rattle.std.specs.Prelude.{◌≡◌, ◌<◌, ◌≤◌, ℕ, List, [], ◌∷◌, ◌++◌, Bool, true, false, ◌==◌, length, map, All, Result, Ok, Err}
use Rattle.std.specs.List.{list_any}
use Rattle.lwb_base.specs.declared.limits.TheConstants.{DATA_SLOTS}
use Rattle.lwb_base.specs.declared.outside.Memory.{Memory}
use Rattle.deadline_plan.specs.declared.admission.Admit.{Admit}
use Rattle.deadline_plan.specs.declared.admission.Admit.TheVariants.{Yes, Twice, Full, Over}
use Rattle.deadline_plan.specs.declared.job.Job.{Job}
use Rattle.deadline_plan.specs.declared.stream.DeadlineStream.{DeadlineStream}
use Rattle.deadline_plan.specs.Jobs.{IsDeadlineStream, jobs, load, NothingOver, IsFirstOver}
use Rattle.deadline_plan.specs.Grants.{grants, owners_of_round}
use Rattle.deadline_plan.specs.Placings.{IsPlacing}

-- the slots of each frame, how many frames there are, and the streams that were admitted
pub record PlanOfDeadlines : Type 0 where
  pub slots : ℕ
  pub frames : ℕ
  pub streams : List DeadlineStream

abbrev pub has_stream_of : List DeadlineStream → ℕ → Bool
has_stream_of ss owner = list_any (λ s. s.owner == owner) ss

abbrev pub with_last : List DeadlineStream → DeadlineStream → List DeadlineStream
with_last ss s = ss ++ s ∷ []

-- of the jobs of these streams none goes without a slot
abbrev pub Fit : PlanOfDeadlines → List DeadlineStream → Type 0
Fit p ss = NothingOver p.slots (jobs p.frames ss)

-- the first pair that is over with these streams. Then their jobs can be placed in no way
pub record DontFit (p : PlanOfDeadlines) (ss : List DeadlineStream) (from until demand : ℕ) : Type 0 where
  pub first : IsFirstOver p.slots (jobs p.frames ss) from until
  pub demand_is : demand ≡ load (jobs p.frames ss) from until
  pub no_placing : (frame_of : Job → ℕ) → IsPlacing p.slots (jobs p.frames ss) frame_of → ⊥

-- which answer comes
abbrev pub IsAdmission : PlanOfDeadlines → DeadlineStream → Admit → Type 0
IsAdmission p s Twice = has_stream_of p.streams s.owner ≡ true
IsAdmission p s Full = (has_stream_of p.streams s.owner ≡ false) × (32 ≤ length p.streams)
IsAdmission p s (Over from until demand) =
    (has_stream_of p.streams s.owner ≡ false) × (length p.streams < 32) × DontFit p (with_last p.streams s) from until demand
IsAdmission p s Yes = (has_stream_of p.streams s.owner ≡ false) × (length p.streams < 32) × Fit p (with_last p.streams s)

-- only an admitted stream changes the plan
abbrev pub after_admit : PlanOfDeadlines → DeadlineStream → Result Admit Memory → PlanOfDeadlines
after_admit p s (Ok Yes) = record p { streams = with_last p.streams s }
after_admit p s (Ok Twice) = p
after_admit p s (Ok Full) = p
after_admit p s (Ok (Over from until demand)) = p
after_admit p s (Err e) = p

-- the jobs granted in each frame, and their owners
abbrev pub grants_of : PlanOfDeadlines → List (List Job)
grants_of p = grants p.slots p.frames (jobs p.frames p.streams)

abbrev pub rounds_of : PlanOfDeadlines → List (List ℕ)
rounds_of p = map owners_of_round (grants_of p)

-- what is true of each plan
pub record IsDeadlinePlan (p : PlanOfDeadlines) : Type 0 where
  pub some_slots : 1 ≤ p.slots
  pub few_slots : p.slots ≤ DATA_SLOTS
  pub some_frames : 1 ≤ p.frames
  pub few_frames : p.frames ≤ 1024
  pub few_streams : length p.streams ≤ 32
  pub streams : All IsDeadlineStream p.streams
  pub fit : Fit p p.streams
