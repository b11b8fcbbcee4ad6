-- Streams that ask for admission one after the other are answered in one way.
use Rattle.std.proofs.Common.{◌≡◌, ℕ, ◌<◌, ◌≤◌, List, [], ◌∷◌, map, Ok, refl, sym, ◌∙◌, ap, subst, arith}
use Rattle.deadline_plan.specs.Admission.{PlanOfDeadlines, with_last, after_admit, rounds_of}
use Rattle.deadline_plan.specs.Jobs.{IsOverload, IsFirstOver, jobs, load}
use Rattle.deadline_plan.specs.declared.admission.Admit.{Admit}
use Rattle.deadline_plan.specs.declared.admission.Admit.TheVariants.{Yes, Twice, Full, Over}
use Rattle.deadline_plan.specs.declared.job.Job.{Job}
use Rattle.deadline_plan.specs.declared.stream.DeadlineStream.{DeadlineStream}
use Rattle.run_commands.specs.DeadlineReport.{Decides, Decided, IsDeadlineReport, stream_of_answer, deadline_lines, no_streams}

one_until : (slots : ℕ) (js : List Job) (f u g w : ℕ) → IsFirstOver slots js f u → IsFirstOver slots js g w → u ≡ w
one_until slots js f u g w one two =
    let up = one.least g w two.over in
    let down = two.least f u one.over in
    omega (arith, up, down)

one_from : (slots : ℕ) (js : List Job) (f u g w : ℕ) → IsFirstOver slots js f u → IsFirstOver slots js g w → f ≡ g
one_from slots js f u g w one two =
    let same = one_until slots js f u g w one two in
    let up = two.greatest f (subst (IsOverload slots js f) same one.over) in
    let down = one.greatest g (subst (IsOverload slots js g) (sym same) two.over) in
    omega (arith, up, down)

both_ways : (m n : ℕ) → m ≤ n → n < m → ⊥
both_ways m n up down = omega (arith, up, down)

module _ (p : PlanOfDeadlines) (x : DeadlineStream) where
  abbrev asked : List Job
  asked = jobs p.frames (with_last p.streams x)

  one_answer : (m n : Admit) → Decides p x m → Decides p x n → m ≡ n
  one_answer Twice n is also = absurd is
  one_answer Full n is also = absurd is
  one_answer Yes Twice is also = absurd also
  one_answer Yes Full is also = absurd also
  one_answer Yes Yes is also = refl
  one_answer Yes (Over f u d) is also = absurd (both_ways _ _ (is f u also.first.over.0) also.first.over.1)
  one_answer (Over f u d) Twice is also = absurd also
  one_answer (Over f u d) Full is also = absurd also
  one_answer (Over f u d) Yes is also = absurd (both_ways _ _ (also f u is.first.over.0) is.first.over.1)
  one_answer (Over f u d) (Over g w e) is also =
      let from = one_from p.slots asked f u g w is.first also.first in
      let until = one_until p.slots asked f u g w is.first also.first in
      let demand : d ≡ e =
      is.demand_is ∙ ap (λ (k : ℕ). load asked k u) from ∙ ap (load asked g) until ∙ sym also.demand_is in
      ap (λ (k : ℕ). Over k u d) from ∙ ap (λ (k : ℕ). Over g k d) until ∙ ap (Over g w) demand

abbrev Answered : Type 0
Answered = DeadlineStream × Admit

abbrev answered : DeadlineStream → Admit → Answered
answered x m = (x, m)

one_decision : (p q r : PlanOfDeadlines) (ms ns : List Answered) → map stream_of_answer ms ≡ map stream_of_answer ns → Decided p ms q → Decided p ns r
    → (ms ≡ ns) × (q ≡ r)
one_decision p q r [] [] streams is also = (refl, is ∙ sym also)
one_decision p q r [] (b ∷ ns) streams is also = cc
one_decision p q r (a ∷ ms) [] streams is also = cc
one_decision p q r (a ∷ ms) (b ∷ ns) streams is also =
    let stream : a.0 ≡ b.0 = cc in
    let rest : map stream_of_answer ms ≡ map stream_of_answer ns = cc in
    let moved : Decides p a.0 b.1 = subst (λ (x : DeadlineStream). Decides p x b.1) (sym stream) also.0 in
    let answer = one_answer p a.0 a.1 b.1 is.0 moved in
    let head : a ≡ b = ap (λ (x : DeadlineStream). answered x a.1) stream ∙ ap (answered b.0) answer in
    let later = one_decision (after_admit p a.0 (Ok a.1)) q r ms ns rest is.1
    (subst (λ (c : Answered). Decided (after_admit p c.0 (Ok c.1)) ns r) (sym head) also.1) in
    (ap (λ (c : Answered). c ∷ ms) head ∙ ap (λ (l : List Answered). b ∷ l) later.0, later.1)

pub one_plan_report : (t : PlanOfDeadlines) (text other : List ℕ) → IsDeadlineReport t text → IsDeadlineReport t other → text ≡ other
one_plan_report t text other is also =
    let same = one_decision (no_streams t) is.plan also.plan is.answers also.answers (is.streams ∙ sym also.streams) is.decided also.decided in
    is.is
    ∙ ap (λ (ms : List Answered). deadline_lines ms (rounds_of is.plan)) same.0
    ∙ ap (λ (q : PlanOfDeadlines). deadline_lines also.answers (rounds_of q)) same.1
    ∙ sym also.is
