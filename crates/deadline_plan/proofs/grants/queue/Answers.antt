use Rattle.std.proofs.Common.{◌≡◌, List, ap, ◌∙◌, arith, subst}
use Rattle.std.proofs.lemmas.List.{take_all}
use Rattle.std.specs.List.Sorted.{IsStableBy}
use Rattle.lwb_base.proofs.StableSorts.{sorted_by_insertion}
use Rattle.deadline_plan.specs.declared.job.Job.{Job}
use Rattle.deadline_plan.specs.declared.stream.DeadlineStream.{DeadlineStream}
use Rattle.deadline_plan.specs.Grants.{comes_before}
use Rattle.deadline_plan.specs.Jobs.{jobs}
use Rattle.deadline_plan.proofs.JobOrder.{job_order}
use Rattle.deadline_plan.proofs.grants.queue.Goals as goal

pub returns : goal.returns
returns c =
    let l = c.loop-stream in
    let all : l.jobs.items ≡ jobs c.args.frames c.args.streams.now = l.invariant ∙ ap (λ (ss : List DeadlineStream). jobs c.args.frames ss)
    (take_all l.stream-index c.args.streams.now (omega arith)) in
    sorted_by_insertion comes_before job_order (jobs c.args.frames c.args.streams.now) c.sort.new.self.items c.in_ok-sort.ensures.sorted
    (subst (λ (js : List Job). IsStableBy comes_before js c.sort.new.self.items) all c.sort.ensures.stable)
