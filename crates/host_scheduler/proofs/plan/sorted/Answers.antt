use Rattle.std.proofs.Common.{◌≡◌, ◌∙◌, ℕ, List, length, drop, ap, sym, subst}
use Rattle.std.specs.List.Sorted.{IsNonDecreasing}
use Rattle.std.specs.List.{refill}
use Rattle.std.proofs.lemmas.List.{take_at}
use Rattle.std.proofs.lemmas.List.Sorted.{IsNonDecreasingBy-from_sort}
use Rattle.host_scheduler.proofs.plan.sorted.Goals as goal

pub returns-clause-ascend : goal.returns-clause-ascend
returns-clause-ascend c =
    let old = c.args.codes.items in
    let new = c.sort_unstable.new.self in
    let up = IsNonDecreasingBy-from_sort (λ x. x) new c.sort_unstable.ensures.sorted in
    let long : length new ≡ length old = c.sort_unstable.ensures.len ∙ ap length c.deref_mut.ensures.value in
    let same : refill (length old) old new ≡ new = take_at new (drop (length new) old) (length old) long in
    subst (λ (l : List ℕ). IsNonDecreasing l) (sym same) up
