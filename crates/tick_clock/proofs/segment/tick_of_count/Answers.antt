use Rattle.std.proofs.Common.{◌-◌, arith}
use Rattle.tick_clock.specs.Segments.{pace_of}
use Rattle.tick_clock.specs.RatesLaw.{pace_range}
use Rattle.tick_clock.proofs.Walks.{comes_found, ceil_of}
use Rattle.tick_clock.proofs.segment.tick_of_count.Goals as goal

pub overflow_sub-wanted : goal.overflow_sub-wanted
overflow_sub-wanted c = (comes_found c.args.segments.now c.args.wanted c.last_below-last.result c.requires.kept c.last_below-last.ensures).low

pub pace-requires : goal.pace-requires
pace-requires c = (comes_found c.args.segments.now c.args.wanted c.last_below-last.result c.requires.kept c.last_below-last.ensures).rate

pub ticks_for-requires : goal.ticks_for-requires
ticks_for-requires c =
    let s = c.last_below-last.result in
    let range = pace_range s.ppm (comes_found c.args.segments.now c.args.wanted s c.requires.kept c.last_below-last.ensures).rate in
    record { pace = omega (arith, range, c.pace.ensures); range = omega (arith, c.requires.range) }

pub overflow_add-result : goal.overflow_add-result
overflow_add-result c =
    let comes = comes_found c.args.segments.now c.args.wanted c.last_below-last.result c.requires.kept c.last_below-last.ensures in
    omega (arith, comes.start, c.ticks_for.ensures.few)

pub returns : goal.returns
returns c =
    let s = c.last_below-last.result in
    let comes = comes_found c.args.segments.now c.args.wanted s c.requires.kept c.last_below-last.ensures in
    let range = pace_range s.ppm comes.rate in
    let ceil = ceil_of (c.args.wanted - s.count) (pace_of s.ppm) c.pace.result c.ticks_for.result (omega arith) c.pace.ensures c.ticks_for.ensures.value in
    let first = comes.first c.ticks_for.result ceil in
    record { reached = first.reached; before = first.before }
