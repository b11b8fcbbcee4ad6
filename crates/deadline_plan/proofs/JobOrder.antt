-- The order of jobs, by end, then owner, then release.
use Rattle.std.proofs.Common.{◌≡◌, ℕ, ◌<◌, ◌≤◌, true, false, Ordering, sym, ◌∙◌, ap, inl, inr, true≢false}
use Rattle.std.specs.Cmp.{IsStrictWeakOrder, nat_cmp_total, on_total, then_total}
use Rattle.std.specs.Ordering.{nat_cmp, ordering_then, is_lt}
use Rattle.std.proofs.lemmas.List.Sorted.{ranks_by}
use Rattle.lwb_base.proofs.Orders.{compares_less, not_below}
use Rattle.deadline_plan.specs.declared.job.Job.{Job}
use Rattle.deadline_plan.specs.Grants.{comes_before}

abbrev place_of : Job → ℕ × ℕ × ℕ
place_of j = (j.end, j.owner, j.release)

pub job_order : IsStrictWeakOrder comes_before
job_order = ranks_by (then_total (on_total (λ (t : ℕ × ℕ × ℕ). t.0) nat_cmp_total)
    (then_total (on_total (λ (t : ℕ × ℕ × ℕ). t.1) nat_cmp_total) (on_total (λ (t : ℕ × ℕ × ℕ). t.2) nat_cmp_total))) place_of

-- a job that does not come before another ends no earlier
pub ends_rise : (j k : Job) → comes_before k j ≡ false → j.end ≤ k.end
ends_rise j k is = not_below k.end j.end (λ less. true≢false (sym (first less) ∙ is))
  where
    later : Ordering
    later = ordering_then (nat_cmp k.owner j.owner) (nat_cmp k.release j.release)

    first : k.end < j.end → comes_before k j ≡ true
    first less = ap (λ (o : Ordering). is_lt (ordering_then o later)) (compares_less k.end j.end less)
