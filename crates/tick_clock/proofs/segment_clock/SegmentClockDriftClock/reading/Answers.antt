use Rattle.std.proofs.Common.{ℕ, ◌+◌, ◌/◌, ◌∙◌, sym, ap, arith, map, List}
use Rattle.tick_clock.specs.declared.segment.Segment.{Segment}
use Rattle.tick_clock.specs.Segments.{rate_entry_of, first_segment}
use Rattle.tick_clock.specs.KeptLaw.{tame_of}
use Rattle.tick_clock.specs.RatesLaw.{count_before, reading_is}
use Rattle.tick_clock.proofs.Walks.{count_small}
use Rattle.tick_clock.proofs.segment_clock.SegmentClockDriftClock.reading.Goals as goal

pub whole_ticks-requires : goal.whole_ticks-requires
whole_ticks-requires c =
    let same = c.count_at.ensures ∙ ap (λ (ss : List Segment). count_before (map rate_entry_of ss) c.args.t) c.deref.ensures.value in
    omega (arith, same, count_small c.args.self.now.segments.items c.args.t c.args.self.now.kept c.requires)

pub overflow_add-result : goal.overflow_add-result
overflow_add-result c =
    let same = c.count_at.ensures ∙ ap (λ (ss : List Segment). count_before (map rate_entry_of ss) c.args.t) c.deref.ensures.value in
    let early = c.args.self.now.early in
    omega (arith, c.whole_ticks.ensures, same, early, count_small c.args.self.now.segments.items c.args.t c.args.self.now.kept c.requires)

pub returns : goal.returns
returns c =
    let ss = c.args.self.now.segments.items in
    let same = c.count_at.ensures ∙ ap (λ (ss : List Segment). count_before (map rate_entry_of ss) c.args.t) c.deref.ensures.value in
    let ticks = c.whole_ticks.ensures ∙ ap (λ (n : ℕ). n / 1000000) same in
    ap (λ (n : ℕ). c.args.self.now.offset + n) ticks
    ∙ sym (reading_is c.args.self.now.offset (map rate_entry_of ss) c.args.t (tame_of first_segment ss c.args.self.now.kept))
