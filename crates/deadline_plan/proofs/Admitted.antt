-- What the load test says of a plan.
use Rattle.std.proofs.Common.{◌≡◌, ℕ, List, [], ◌∷◌, ◌++◌, All, subst}
use Rattle.std.proofs.lemmas.List.Elements.{All-from_recursion, recursion_from_All}
use Rattle.std.specs.List.{AllByRecursion}
use Rattle.deadline_plan.specs.Admission.{PlanOfDeadlines, DontFit}
use Rattle.deadline_plan.specs.Jobs.{IsDeadlineStream, jobs, load, IsFirstOver}
use Rattle.deadline_plan.specs.declared.load.Overload.{Overload}
use Rattle.deadline_plan.specs.declared.stream.DeadlineStream.{DeadlineStream}
use Rattle.deadline_plan.proofs.Placed.{no_placing}

pub dont_fit : (p : PlanOfDeadlines) (ss list : List DeadlineStream) (slots frames : ℕ) (o : Overload) → slots ≡ p.slots → frames ≡ p.frames → list ≡ ss
    → IsFirstOver slots (jobs frames list) o.from o.until → o.demand ≡ load (jobs frames list) o.from o.until → DontFit p ss o.from o.until o.demand
dont_fit p ss list slots frames o s f l first demand =
    let moved : IsFirstOver p.slots (jobs p.frames ss) o.from o.until × (o.demand ≡ load (jobs p.frames ss) o.from o.until) =
    subst (λ (x : ℕ). IsFirstOver x (jobs p.frames ss) o.from o.until × (o.demand ≡ load (jobs p.frames ss) o.from o.until)) s
    (subst (λ (x : ℕ). IsFirstOver slots (jobs x ss) o.from o.until × (o.demand ≡ load (jobs x ss) o.from o.until)) f
    (subst (λ (x : List DeadlineStream). IsFirstOver slots (jobs frames x) o.from o.until × (o.demand ≡ load (jobs frames x) o.from o.until)) l
    (first, demand))) in
    record { first = moved.0; demand_is = moved.1; no_placing = no_placing p.slots (jobs p.frames ss) o.from o.until moved.0.over }

all_push : (ss : List DeadlineStream) (s : DeadlineStream) → AllByRecursion IsDeadlineStream ss → IsDeadlineStream s
    → AllByRecursion IsDeadlineStream (ss ++ s ∷ [])
all_push [] s all here = (here, tt)
all_push (t ∷ ss) s all here = (all.0, all_push ss s all.1 here)

pub streams_more : (ss : List DeadlineStream) (s : DeadlineStream) → All IsDeadlineStream ss → IsDeadlineStream s → All IsDeadlineStream (ss ++ s ∷ [])
streams_more ss s all here = All-from_recursion IsDeadlineStream (ss ++ s ∷ []) (all_push ss s (recursion_from_All IsDeadlineStream ss all) here)
