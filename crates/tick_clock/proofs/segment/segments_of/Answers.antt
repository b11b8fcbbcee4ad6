use Rattle.std.proofs.Common.{◌≡◌, ℕ, ◌+◌, ◌∷◌, [], ◌++◌, List, drop, length, get_or, take, map, refl, sym, ◌∙◌, subst, arith, rules}
use Rattle.std.specs.Prelude.{ℤ, pos}
use Rattle.std.proofs.lemmas.List.{drop_more, take_more}
use mir.Val.{to_z, of_z}
use mir.Syntax.{w8}
use Rattle.tick_clock.specs.declared.segment.Segment.{Segment}
use Rattle.tick_clock.specs.Segments.{AreSegmentsAfter, last_segment, first_segment, rate_entry_of}
use Rattle.tick_clock.proofs.Walks.{same_rate}
use Rattle.tick_clock.proofs.KeptSegments.{InOrder, IsSmall, in_order, step_kept, step_last, step_small, step_entries}
use Rattle.tick_clock.proofs.segment.segments_of.Goals as goal

pub counted-count-requires : goal.counted-count-requires
counted-count-requires c =
    let rates = c.args.rates.now in
    let i : ℕ = c.loop-start.start-index in
    let inv = c.loop-start.invariant in
    let todo : InOrder c.loop-start.last.start (get_or rates i (0, pos 0) ∷ drop (i + 1) rates) =
    subst (InOrder c.loop-start.last.start) (drop_more rates i (0, pos 0) (omega arith)) inv.todo in
    record { rate = inv.small.rate; begun = todo.0; small = omega (arith, inv.small.count, inv.small.start) }

pub loop-start-init : goal.loop-start-init
loop-start-init c =
    let order = in_order c.args.rates.now c.requires.rates c.requires.order c.requires.starts in
    let first : c.segment_before-last.result ≡ first_segment = c.segment_before-last.ensures in
    record {
      entries = rw c.new-segments.ensures.items refl;
      kept = rw c.new-segments.ensures.items tt;
      last = rw c.new-segments.ensures.items first;
      small = subst IsSmall (sym first) (record { start = omega arith; rate = omega arith; count = omega arith });
      todo = subst (λ (s : Segment). InOrder s.start c.args.rates.now) (sym first) order;
    }

pub loop-start-preserved : goal.loop-start-preserved
loop-start-preserved c =
    let rates = c.args.rates.now in
    let i : ℕ = c.loop-start.start-index in
    let x : ℕ × ℤ = get_or rates i (0, pos 0) in
    let rest = drop (i + 1) rates in
    let inv = c.loop-start.invariant in
    let todo : InOrder c.loop-start.last.start (x ∷ rest) = subst (InOrder c.loop-start.last.start) (drop_more rates i (0, pos 0) (omega arith)) inv.todo in
    let z : ℤ = to_z w8 (of_z w8 x.1) in
    let same : z ≡ x.1 = same_rate x.1 todo.2 in
    let count : ℕ = c.counted-count.result in
    let last = c.loop-start.last in
    let ss = c.loop-start.segments.items in
    let s : Segment = record { start = x.0; ppm = z; count = count } in
    let pushed : ss ++ s ∷ [] ≡ c.push.new.self.items = search rules in
    record {
      entries = subst (λ (l : List Segment). map rate_entry_of l ≡ take (i + 1) rates) pushed
          (step_entries ss last x rest z count same c.counted-count.ensures inv.kept inv.last inv.small todo (take i rates) inv.entries
          ∙ sym (take_more rates i (0, pos 0) (omega arith)));
      kept = subst (AreSegmentsAfter first_segment) pushed (step_kept ss last x rest z count same c.counted-count.ensures inv.kept inv.last inv.small todo);
      last = subst (λ (l : List Segment). s ≡ last_segment first_segment l (length l)) pushed
          (step_last ss last x rest z count same c.counted-count.ensures inv.kept inv.last inv.small todo);
      small = step_small ss last x rest z count same c.counted-count.ensures inv.kept inv.last inv.small todo;
      todo = todo.3;
    }
