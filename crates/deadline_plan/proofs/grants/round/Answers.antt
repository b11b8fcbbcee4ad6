use Rattle.std.proofs.Common.{List, sym, ◌∙◌, ℕ, nat_le, map, subst}
use Rattle.std.specs.List.Sorted.{IsStable}
use Rattle.std.specs.Ordering.{nat_cmp}
use Rattle.deadline_plan.specs.declared.job.Job.{Job}
use Rattle.deadline_plan.specs.Sorting.{IsOrdered}
use Rattle.deadline_plan.proofs.OwnersAscend.{ordered_by_sort, numbers_in_order}
use Rattle.deadline_plan.proofs.grants.round.Goals as goal

pub of_ascending-requires-clause-ascending : goal.of_ascending-requires-clause-ascending
of_ascending-requires-clause-ascending c =
    subst (λ (l : List ℕ). IsOrdered nat_le l) (sym c.deref.ensures.value) (ordered_by_sort c.sort.new.self.items c.in_ok-sort.ensures.sorted)

pub returns : goal.returns
returns c =
    let all : List ℕ = map (λ (j : Job). j.owner) c.args.granted.now in
    c.of_ascending.ensures ∙ c.deref.ensures.value
    ∙ numbers_in_order all c.sort.new.self.items c.in_ok-sort.ensures.sorted
    (subst (λ (l : List ℕ). IsStable nat_cmp l c.sort.new.self.items) c.in_ok-owners.ensures c.sort.ensures.stable)
