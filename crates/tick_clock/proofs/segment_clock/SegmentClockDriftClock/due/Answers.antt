use Rattle.std.proofs.Common.{ℕ, ◌*◌, arith, map, subst, List}
use Rattle.tick_clock.specs.declared.segment.Segment.{Segment}
use Rattle.tick_clock.specs.Rates.{segment_reading}
use Rattle.tick_clock.specs.RatesLaw.{reading_is}
use Rattle.tick_clock.specs.Segments.{rate_entry_of, first_segment}
use Rattle.tick_clock.specs.KeptLaw.{tame_of, kept_law}
use Rattle.tick_clock.proofs.DueTicks.{due_unique}
use Rattle.tick_clock.proofs.Walks.{IsFirst}
use Rattle.tick_clock.proofs.segment_clock.SegmentClockDriftClock.due.Goals as goal

pub returns : goal.returns
returns c =
    let self = c.args.self.now in
    let ss = self.segments.items in
    let offset : ℕ = self.offset in
    let wanted : ℕ = c.from.result * 1000000 in
    let t : ℕ = c.tick_of_count.result in
    let tame = tame_of first_segment ss self.kept in
    let given : IsFirst (map rate_entry_of c.deref.result.now) wanted t =
    record { reached = c.tick_of_count.ensures.reached; before = c.tick_of_count.ensures.before } in
    let first : IsFirst (map rate_entry_of ss) wanted t = subst (λ (xs : List Segment). IsFirst (map rate_entry_of xs) wanted t) c.deref.ensures.value given in
    due_unique (segment_reading offset (map rate_entry_of ss)) c.args.local t (kept_law offset ss self.early self.kept) c.requires
    (omega (arith, reading_is offset (map rate_entry_of ss) t tame, first.reached))
    (λ s less. omega (arith, reading_is offset (map rate_entry_of ss) s tame, first.before s less))
