use Rattle.std.proofs.Common.{◌≡◌, ◌++◌, ◌∷◌, [], List, ℕ, map, length, ap, sym, ◌∙◌, arith, rules}
use Rattle.std.proofs.lemmas.List.{append-nil}
use Rattle.deadline_plan.specs.declared.job.Job.{Job}
use Rattle.deadline_plan.specs.Grants.{granted_jobs, jobs_left, grants_from, owners_of_round}
use Rattle.deadline_plan.proofs.GrantSteps.{few_granted, no_frame, round_more}
use Rattle.deadline_plan.proofs.grants.rounds.Goals as goal

pub round-requires : goal.round-requires
round-requires c =
    let is : c.deref-in-loop-frame.result.now ≡ granted_jobs c.args.slots c.loop-frame.frame c.deref.result.now = c.deref-in-loop-frame.ensures.value ∙
    c.in_ok-granted.ensures.granted in
    omega (arith, ap length is, few_granted c.args.slots c.loop-frame.frame c.deref.result.now, c.requires)

pub loop-frame-preserved : goal.loop-frame-preserved
loop-frame-preserved c =
    let l = c.loop-frame in
    let pushed : c.push.new.self.items ≡ l.rounds.items ++ c.in_ok-round.round ∷ [] = search rules in
    let granted_is : c.deref-in-loop-frame.result.now ≡ granted_jobs c.args.slots l.frame l.waiting.items =
    c.deref-in-loop-frame.ensures.value ∙ c.in_ok-granted.ensures.granted ∙ ap (λ (w : List Job). granted_jobs c.args.slots l.frame w) c.deref.ensures.value in
    let left_is : c.in_ok-granted.left.items ≡ jobs_left c.args.slots l.frame l.waiting.items = c.in_ok-granted.ensures.left ∙ ap (λ (w : List Job). jobs_left
    c.args.slots l.frame w) c.deref.ensures.value in
    round_more c.args.slots l.frame c.args.frames (map owners_of_round (grants_from c.args.slots 0 c.args.frames c.args.waiting.items)) l.rounds.items
    c.push.new.self.items l.waiting.items c.in_ok-granted.left.items c.in_ok-round.round
    c.loop-frame-test.true l.invariant (c.in_ok-round.ensures ∙ ap owners_of_round granted_is) left_is pushed

pub returns : goal.returns
returns c = sym (c.loop-frame.invariant ∙ ap (λ (l : List (List ℕ)). c.loop-frame.rounds.items ++ l)
    (no_frame c.args.slots c.loop-frame.frame c.args.frames c.loop-frame.waiting.items (omega arith)) ∙ append-nil c.loop-frame.rounds.items)
