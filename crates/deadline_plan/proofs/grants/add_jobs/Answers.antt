use Rattle.std.proofs.Common.{◌++◌, List, ap, sym, ◌∙◌, arith, append_assoc, nat_le, cond, [], ◌∷◌, filter, map}
use Rattle.std.specs.List.{range_with_len}
use Rattle.std.proofs.lemmas.List.FromFn.{filter_of_map_range_with_len_more}
use Rattle.deadline_plan.specs.declared.job.Job.{Job}
use Rattle.deadline_plan.specs.Jobs.{job}
use Rattle.deadline_plan.proofs.grants.add_jobs.Goals as goal

pub loop-number-preserved : goal.loop-number-preserved
loop-number-preserved c =
    let n = c.loop-number.number in
    let s = c.args.stream.now in
    let more = filter_of_map_range_with_len_more (λ (j : Job). nat_le j.end c.args.frames) (job s) 0 n n (omega arith) in
    c.in_ok-add_job.ensures
    ∙ ap (λ (l : List Job). l ++ cond (nat_le (job s n).end c.args.frames) (job s n ∷ []) []) c.loop-number.invariant
    ∙ append_assoc c.args.jobs.now.items (filter (λ (j : Job). nat_le j.end c.args.frames) (map (job s) (range_with_len 0 n))) (cond (nat_le
    (job s n).end c.args.frames) (job s n ∷ []) [])
    ∙ ap (λ (l : List Job). c.args.jobs.now.items ++ l) (sym more)
