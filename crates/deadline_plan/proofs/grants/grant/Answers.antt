use Rattle.std.proofs.Common.{◌≡◌, ◌++◌, ◌-◌, List, ap, sym, ◌∙◌, arith, rules, length, Bool, not, ◌&&◌, nat_lt, nat_le}
use Rattle.std.proofs.lemmas.Bool.{lt-ltb, le-ltb}
use Rattle.std.proofs.lemmas.List.{append-nil, drop_all}
use Rattle.deadline_plan.specs.declared.job.Job.{Job}
use Rattle.deadline_plan.specs.Grants.{granted_jobs, jobs_left}
use Rattle.deadline_plan.proofs.GrantSteps.{only_if, granted_more, left_more}
use Rattle.deadline_plan.proofs.grants.grant.Goals as goal
use Rattle.deadline_plan.proofs.grants.grant.Goals.{then-len-from, else-len-from}

pub loop-job-preserved : goal.loop-job-preserved
loop-job-preserved c =
    let l = c.loop-job in
    let j = c.job-item.result in
    let b = c.if-len-from.is_granted in
    let long : c.len.result ≡ length l.granted.items = search rules in
    let slots : c.from.result ≡ c.args.slots = search rules in
    let test : b ≡ (nat_lt 0 (c.args.slots - length l.granted.items) && nat_le j.release c.args.frame) =
    elim c.if-len-from.branch [
      | then-len-from w ↦ (let some = lt-ltb 0 (c.args.slots - length l.granted.items) (omega (arith, long, slots, w.if-len-from.true)) in w.is_granted-is ∙
          sym (ap (λ (t : Bool). t && nat_le j.release c.args.frame) some))
      | else-len-from w ↦ (let none = le-ltb 0 (c.args.slots - length l.granted.items) (omega (arith, long, slots, w.if-len-from.false)) in w.is_granted-is ∙
          le-ltb c.len.result c.from.result w.if-len-from.false ∙ sym (ap (λ (t : Bool). t && nat_le j.release c.args.frame) none))
    ] in
    let pushed : c.add_if.new.jobs.items ≡ l.granted.items ++ only_if b j = c.in_ok-add_if.ensures in
    let kept : c.add_if-in-loop-job.new.jobs.items ≡ l.left.items ++ only_if (not b) j = c.in_ok-add_if-2.ensures in
    record {
      granted = granted_more c.args.slots c.args.frame l.job-index c.args.waiting.now l.granted.items c.add_if.new.jobs.items j b c.loop-job-test.true
          c.job-item.is test pushed l.invariant.granted;
      left = left_more c.args.slots c.args.frame l.job-index c.args.waiting.now l.granted.items c.add_if.new.jobs.items j b c.loop-job-test.true
          c.job-item.is test pushed l.left.items c.add_if-in-loop-job.new.jobs.items kept l.invariant.left;
    }

pub returns-clause-granted : goal.returns-clause-granted
unfolding granted_jobs
returns-clause-granted c =
    let l = c.loop-job in
    let none = drop_all l.job-index c.args.waiting.now (omega arith) in
    sym (l.invariant.granted ∙ ap (λ (r : List Job). l.granted.items ++ granted_jobs (c.args.slots - length l.granted.items) c.args.frame r) none ∙ append-nil
    l.granted.items)

pub returns-clause-left : goal.returns-clause-left
unfolding jobs_left
returns-clause-left c =
    let l = c.loop-job in
    let none = drop_all l.job-index c.args.waiting.now (omega arith) in
    sym (l.invariant.left ∙ ap (λ (r : List Job). l.left.items ++ jobs_left (c.args.slots - length l.granted.items) c.args.frame r) none
    ∙ append-nil l.left.items)
