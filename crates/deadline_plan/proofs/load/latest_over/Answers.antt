use Rattle.std.proofs.Common.{◌≡◌, ◌-◌, ◌*◌, ◌≤◌, ℕ, arith, ap, sym, subst, refl, inl, inr}
use Rattle.std.proofs.lemmas.Bool.{cases_eq}
use Rattle.deadline_plan.specs.Load.{sum_from}
use Rattle.deadline_plan.proofs.SpansDown.{span_none, span_more, product_none, product_more}
use Rattle.deadline_plan.proofs.load.latest_over.Goals as goal

pub loop-from-init : goal.loop-from-init
loop-from-init c =
    let sums = span_none c.args.released.now c.args.until in
    let rooms = product_none c.from-slots.result c.args.until in
    record {
      before = omega arith;
      demand = sym sums;
      small = omega arith;
      room = sym rooms;
      few = omega arith;
      within = λ a low high. absurd (omega arith);
    }

pub returns-then-demand-room-clause-some : goal.returns-then-demand-room-clause-some
returns-then-demand-room-clause-some c =
    let l = c.loop-from in
    let some = c.loop-from-test.true in
    let slots : c.from-slots.result ≡ c.args.slots = c.from-slots.ensures in
    let more = span_more c.args.released.now l.from c.args.until some l.invariant.before in
    let wider = product_more c.args.slots l.from c.args.until some l.invariant.before in
    let same : c.from-slots.result * (c.args.until - l.from) ≡ c.args.slots * (c.args.until - l.from) = ap (λ (s : ℕ). s * (c.args.until - l.from)) slots in
    record {
      ends = refl;
      before = omega arith;
      demand = omega (arith, l.invariant.demand, more);
      over = omega (arith, wider, same, l.invariant.room, c.if-demand-room.true);
      latest = λ a low high. subst (λ (s : ℕ). sum_from c.args.released.now a (c.args.until - a) ≤ s * (c.args.until - a)) slots (l.invariant.within a
          (omega arith) high);
    }

pub loop-from-preserved : goal.loop-from-preserved
loop-from-preserved c =
    let l = c.loop-from in
    let some = c.loop-from-test.true in
    let slots = c.from-slots.ensures in
    let more = span_more c.args.released.now l.from c.args.until some l.invariant.before in
    let wider = product_more c.from-slots.result l.from c.args.until some l.invariant.before in
    let place = c.requires.room (l.from - 1) in
    let here : sum_from c.args.released.now (l.from - 1) (c.args.until - (l.from - 1)) ≤ c.from-slots.result * (c.args.until - (l.from - 1)) =
    omega (arith, more, wider, l.invariant.demand, l.invariant.room, c.if-demand-room.false) in
    record {
      before = omega arith;
      demand = omega (arith, l.invariant.demand, more);
      small = omega (arith, place, l.invariant.small);
      room = omega (arith, wider, l.invariant.room);
      few = omega (arith, slots, c.requires.slots, l.invariant.few);
      within = λ a low high. elim (cases_eq a (l.from - 1)) [
        | inl same ↦ subst (λ (x : ℕ). sum_from c.args.released.now x (c.args.until - x) ≤ c.from-slots.result * (c.args.until - x)) (sym same) here
        | inr other ↦ l.invariant.within a (omega arith) high
      ];
    }
