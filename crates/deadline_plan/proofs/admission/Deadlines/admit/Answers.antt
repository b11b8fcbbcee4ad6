use Rattle.std.proofs.Common.{◌≡◌, ◌<◌, ◌∷◌, [], List, ap, sym, ◌∙◌, arith, rules, subst, length, false}
use Rattle.std.proofs.lemmas.List.{length-append}
use Rattle.deadline_plan.specs.Admission.{PlanOfDeadlines, IsDeadlinePlan, has_stream_of, with_last}
use Rattle.deadline_plan.specs.Jobs.{jobs, NothingOver}
use Rattle.deadline_plan.specs.declared.stream.DeadlineStream.{DeadlineStream}
use Rattle.deadline_plan.proofs.Admitted.{dont_fit, streams_more}
use Rattle.deadline_plan.proofs.admission.Deadlines.admit.Goals as goal

pub returns-in-Some-clause-answer : goal.returns-in-Some-clause-answer
returns-in-Some-clause-answer c =
    let p = c.args.self.now in
    let s = c.args.s.now in
    let slots : c.self.inside.slots ≡ p.slots = ap (λ (q : PlanOfDeadlines). q.slots) c.self.view_is in
    let frames : c.self.inside.frames ≡ p.frames = ap (λ (q : PlanOfDeadlines). q.frames) c.self.view_is in
    let streams : c.as_slice.result.now ≡ p.streams = c.as_slice.ensures.value ∙ ap (λ (q : PlanOfDeadlines). q.streams) c.self.view_is in
    let same : c.as_slice-2.result.now ≡ p.streams = c.as_slice-2.ensures.value ∙ ap (λ (q : PlanOfDeadlines). q.streams) c.self.view_is in
    let all : c.deref.result.now ≡ with_last p.streams s = c.deref.ensures.value ∙ c.in_ok-all.ensures ∙ ap (λ (ss : List DeadlineStream). with_last ss s)
    same in
    let new : has_stream_of p.streams s.owner ≡ false = sym (ap (λ (ss : List DeadlineStream). has_stream_of ss s.owner) streams) ∙ sym c.has_owner.ensures ∙
    c.if-has_owner.false in
    let few : length p.streams < 32 = search rules in
    let over = rw c.in-Some.is at c.in_ok-over.ensures.over in
    let demand = rw c.in-Some.is at c.in_ok-over.ensures.demand in
    (new, few, dont_fit p (with_last p.streams s) c.deref.result.now c.self.inside.slots c.self.inside.frames c.in-Some.over slots frames all over demand)

pub invariant_of-self : goal.invariant_of-self
invariant_of-self c =
    let is = c.self.invariant in
    let s = c.args.s.now in
    let pushed : c.push.new.self.items ≡ with_last c.self.inside.streams.items s = search rules in
    let all : c.deref.result.now ≡ with_last c.self.inside.streams.items s = c.deref.ensures.value ∙ c.in_ok-all.ensures ∙ ap (λ (ss : List DeadlineStream).
    with_last ss s) c.as_slice-2.ensures.value in
    let none = rw c.in_default.is at c.in_ok-over.ensures.none in
    let few : length c.self.inside.streams.items < 32 = search rules in
    subst (λ (ss : List DeadlineStream). IsDeadlinePlan (record { slots = c.self.inside.slots; frames = c.self.inside.frames; streams = ss })) (sym pushed)
    (record {
      some_slots = is.some_slots;
      few_slots = is.few_slots;
      some_frames = is.some_frames;
      few_frames = is.few_frames;
      few_streams = omega (arith, few, length-append c.self.inside.streams.items (s ∷ []));
      streams = streams_more c.self.inside.streams.items s is.streams c.requires;
      fit = subst (λ (ss : List DeadlineStream). NothingOver c.self.inside.slots (jobs c.self.inside.frames ss)) all none;
    })
