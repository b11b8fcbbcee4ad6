use Rattle.std.proofs.Common.{◌≡◌, ◌+◌, ◌-◌, ◌*◌, ◌≤◌, ◌<◌, ℕ, arith, ap, sym, subst, ◌∙◌, length, get_or, List, rules, replicate}
use Rattle.std.proofs.lemmas.List.{length-replicate, get_or-replicate}
use Rattle.std.proofs.lemmas.List.Elements.{recursion_from_All}
use Rattle.deadline_plan.specs.Jobs.{IsDeadlineStream}
use Rattle.deadline_plan.specs.Load.{sum_from, IsLatestOver}
use Rattle.deadline_plan.proofs.ReleasedCounts.{written, small, counts_at_first, counts_written, none_over, overload, none_so_far}
use Rattle.deadline_plan.proofs.load.first_over.Goals as goal

pub loop-ended-init : goal.loop-ended-init
loop-ended-init c =
    let zeros : c.in_ok-released.released.items ≡ replicate c.args.frames 0 = search rules in
    let all = recursion_from_All IsDeadlineStream c.args.streams.now c.requires.streams in
    record {
      long = ap length zeros ∙ length-replicate c.args.frames 0;
      counted = counts_at_first c.args.frames c.args.streams.now c.requires.frames c.requires.few all c.in_ok-released.released.items
          (λ a below. ap (λ (l : List ℕ). get_or l a 0) zeros ∙ get_or-replicate c.args.frames a 0 0 below);
      nothing = λ from until by order. absurd (omega arith);
    }

pub count_ends-requires-clause-room : goal.count_ends-requires-clause-room
count_ends-requires-clause-room c =
    let l = c.loop-ended in
    let all = recursion_from_All IsDeadlineStream c.args.streams.now c.requires.streams in
    subst (λ (items : List ℕ). (a : ℕ) → get_or items a 0 ≤ 65536) (sym c.deref_mut.ensures.value)
    (small c.args.frames c.args.streams.now c.requires.frames c.requires.few all l.ended l.released.items l.invariant.long l.invariant.counted)

pub latest_over-requires-clause-room : goal.latest_over-requires-clause-room
latest_over-requires-clause-room c =
    let l = c.loop-ended in
    let now = c.count_ends.new.released in
    let all = recursion_from_All IsDeadlineStream c.args.streams.now c.requires.streams in
    let same : length now ≡ length l.released.items = c.count_ends.ensures.length ∙ ap length c.deref_mut.ensures.value in
    let len : l.released.len ≡ length l.released.items = sym c.deref_mut.ensures.len ∙ ap length c.deref_mut.ensures.value in
    let is : c.deref.result.now ≡ now = c.deref.ensures.value ∙ written now l.released.items l.released.len same len in
    let counted = counts_written c.args.frames c.args.streams.now c.requires.frames c.requires.few all l.ended l.released.items c.deref_mut.result.now now
    c.loop-ended-test.true c.deref_mut.ensures.value l.invariant.long l.invariant.counted c.count_ends.ensures.length c.count_ends.ensures.counted in
    let fits = small c.args.frames c.args.streams.now c.requires.frames c.requires.few all (l.ended + 1) now (same ∙ l.invariant.long) counted in
    λ a. (let here : get_or c.deref.result.now a 0 ≡ get_or now a 0 = ap (λ (ns : List ℕ). get_or ns a 0) is in omega (arith, here, fits a))

pub loop-ended-preserved : goal.loop-ended-preserved
loop-ended-preserved c =
    let l = c.loop-ended in
    let now = c.count_ends.new.released in
    let all = recursion_from_All IsDeadlineStream c.args.streams.now c.requires.streams in
    let same : length now ≡ length l.released.items = c.count_ends.ensures.length ∙ ap length c.deref_mut.ensures.value in
    let len : l.released.len ≡ length l.released.items = sym c.deref_mut.ensures.len ∙ ap length c.deref_mut.ensures.value in
    let whole = written now l.released.items l.released.len same len in
    let is : c.deref.result.now ≡ now = c.deref.ensures.value ∙ whole in
    let counted = counts_written c.args.frames c.args.streams.now c.requires.frames c.requires.few all l.ended l.released.items c.deref_mut.result.now now
    c.loop-ended-test.true c.deref_mut.ensures.value l.invariant.long l.invariant.counted c.count_ends.ensures.length c.count_ends.ensures.counted in
    let none : (a : ℕ) → a < l.ended + 1 → sum_from now a (l.ended + 1 - a) ≤ c.args.slots * (l.ended + 1 - a) =
    subst (λ (ns : List ℕ). (a : ℕ) → a < l.ended + 1 → sum_from ns a (l.ended + 1 - a) ≤ c.args.slots * (l.ended + 1 - a)) is c.in_default.ensures.none in
    record {
      long = ap length whole ∙ same ∙ l.invariant.long;
      counted = λ a below. ap (λ (ns : List ℕ). get_or ns a 0) whole ∙ counted a below;
      nothing = none_so_far c.args.frames c.args.streams.now c.requires.frames c.requires.few all c.args.slots l.ended c.loop-ended-test.true
          l.invariant.nothing now counted none;
    }

pub returns-in-Some-clause-over : goal.returns-in-Some-clause-over
returns-in-Some-clause-over c =
    let l = c.loop-ended in
    let now = c.count_ends.new.released in
    let all = recursion_from_All IsDeadlineStream c.args.streams.now c.requires.streams in
    let same : length now ≡ length l.released.items = c.count_ends.ensures.length ∙ ap length c.deref_mut.ensures.value in
    let len : l.released.len ≡ length l.released.items = sym c.deref_mut.ensures.len ∙ ap length c.deref_mut.ensures.value in
    let is : c.deref.result.now ≡ now = c.deref.ensures.value ∙ written now l.released.items l.released.len same len in
    let counted = counts_written c.args.frames c.args.streams.now c.requires.frames c.requires.few all l.ended l.released.items c.deref_mut.result.now now
    c.loop-ended-test.true c.deref_mut.ensures.value l.invariant.long l.invariant.counted c.count_ends.ensures.length c.count_ends.ensures.counted in
    (overload c.args.frames c.args.streams.now c.requires.frames c.requires.few all c.args.slots l.ended c.loop-ended-test.true l.invariant.nothing now
    counted c.in-Some.overload
    (subst (λ (ns : List ℕ). IsLatestOver ns c.args.slots (l.ended + 1) c.in-Some.overload) is c.in-Some.ensures.some)).0

pub returns-in-Some-clause-demand : goal.returns-in-Some-clause-demand
returns-in-Some-clause-demand c =
    let l = c.loop-ended in
    let now = c.count_ends.new.released in
    let all = recursion_from_All IsDeadlineStream c.args.streams.now c.requires.streams in
    let same : length now ≡ length l.released.items = c.count_ends.ensures.length ∙ ap length c.deref_mut.ensures.value in
    let len : l.released.len ≡ length l.released.items = sym c.deref_mut.ensures.len ∙ ap length c.deref_mut.ensures.value in
    let is : c.deref.result.now ≡ now = c.deref.ensures.value ∙ written now l.released.items l.released.len same len in
    let counted = counts_written c.args.frames c.args.streams.now c.requires.frames c.requires.few all l.ended l.released.items c.deref_mut.result.now now
    c.loop-ended-test.true c.deref_mut.ensures.value l.invariant.long l.invariant.counted c.count_ends.ensures.length c.count_ends.ensures.counted in
    (overload c.args.frames c.args.streams.now c.requires.frames c.requires.few all c.args.slots l.ended c.loop-ended-test.true l.invariant.nothing now
    counted c.in-Some.overload
    (subst (λ (ns : List ℕ). IsLatestOver ns c.args.slots (l.ended + 1) c.in-Some.overload) is c.in-Some.ensures.some)).1

pub returns-clause-none : goal.returns-clause-none
returns-clause-none c =
    let l = c.loop-ended in
    let all = recursion_from_All IsDeadlineStream c.args.streams.now c.requires.streams in
    none_over c.args.frames c.args.streams.now c.requires.frames c.requires.few all c.args.slots
    (λ from until by order. l.invariant.nothing from until (omega arith) order)
